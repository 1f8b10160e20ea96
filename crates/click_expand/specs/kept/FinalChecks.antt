-- The first of the flat elements that is refused.
use Rattle.std.specs.Prelude.{◌≡◌, ℕ, List, map, take, slice_get, All, Contains, true, false, Some}
use Rattle.click_expand.specs.Flat.{AreDistinct, is_whole}
use Rattle.click_expand.specs.declared.flat.FlatElement.{FlatElement}

abbrev pub flat_names_in : List FlatElement → List (List ℕ)
flat_names_in es = map (λ (e : FlatElement). e.name) es

-- The element at index i is the first with the name of an earlier one.
pub record IsRepeated (es : List FlatElement) (i : ℕ) : Type 0 where
  pub element : FlatElement
  pub there : slice_get es i ≡ Some element
  pub front : AreDistinct (flat_names_in (take i es))
  pub taken : Contains (flat_names_in (take i es)) element.name

-- The element at index i is the first with a text that is no longer one string.
pub record IsBroken (es : List FlatElement) (i : ℕ) : Type 0 where
  pub element : FlatElement
  pub there : slice_get es i ≡ Some element
  pub front : All (λ (e : FlatElement). is_whole e.text ≡ true) (take i es)
  pub broken : is_whole element.text ≡ false
