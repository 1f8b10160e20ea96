-- The size of a configuration as the code counts it, up to the limits plus one.
use Rattle.std.specs.Prelude.{◌≡◌, ℕ, ◌+◌, List, length, min}
use Rattle.click_text.specs.declared.syntax.Config.{Config}
use Rattle.click_expand.specs.Instances.{PrimitiveElement, PrimitiveElementsOf}
use Rattle.click_expand.specs.Flat.{most_elements, most_paths}
use Rattle.click_expand.specs.declared.instances.sizes.Size.{Size}

-- the numbers of flat elements and of paths, or the limit plus one
pub record IsSize (primitive_elements : List PrimitiveElement) (paths : ℕ) (size : Size) : Type 0 where
  pub elements : size.elements ≡ min (length primitive_elements) (most_elements + 1)
  pub all_paths : size.paths ≡ min paths (most_paths + 1)

abbrev pub IsSizeOf : Config → Size → Type 0
IsSizeOf c size = (primitive_elements : List PrimitiveElement) (paths : ℕ) → PrimitiveElementsOf c primitive_elements paths → IsSize primitive_elements paths size
