-- The size of a scope, from the sizes of the bodies before it.
use Rattle.std.specs.Prelude.{◌≡◌, ◌+◌, ℕ, List, sum_by, min, slice_get, Option, Some, None}
use Rattle.click_expand.specs.Flat.{most_elements, most_paths}
use Rattle.click_scopes.specs.declared.classes.ResolvedClass.{ResolvedClass}
use Rattle.click_scopes.specs.declared.classes.ResolvedClass.TheVariants as class
use Rattle.click_scopes.specs.declared.scope_elements.ScopeElement.{ScopeElement}
use Rattle.click_expand.specs.declared.instances.sizes.Size.{Size}

-- the size, or 0 if there is none
abbrev pub size_or : Option Size → Size
size_or None = record { elements = 0; paths = 0 }
size_or (Some s) = s

-- the size inside an element: a flat element is one element, and contains no paths
abbrev pub size_inside : List Size → Option ResolvedClass → Size
size_inside sizes None = record { elements = 1; paths = 0 }
size_inside sizes (Some (class.Primitive s)) = record { elements = 1; paths = 0 }
size_inside sizes (Some (class.Compound b)) = size_or (slice_get sizes b)

abbrev pub elements_in : List Size → ScopeElement → ℕ
elements_in sizes l = (size_inside sizes l.class).elements

abbrev pub paths_in : List Size → ScopeElement → ℕ
paths_in sizes l = (size_inside sizes l.class).paths + 1

-- the sums over the elements of a scope, up to the limits plus one
pub record IsSum (sizes : List Size) (scope_elements : List ScopeElement) (size : Size) : Type 0 where
  pub elements : size.elements ≡ min (sum_by (elements_in sizes) scope_elements) (most_elements + 1)
  pub all_paths : size.paths ≡ min (sum_by (paths_in sizes) scope_elements) (most_paths + 1)
