-- The code has a global handler for each name of the definition.
use Rattle.std.proofs.Common.{◌≡◌, ℕ, List, codes, true, Option, Some, None, refl, sym, ap}
use Rattle.std.specs.Option.{is_some, MatchOption}
use Rattle.click_router.specs.Globals.{global_value, class_list}
use Rattle.click_router.specs.State.{RouterState}
use Rattle.click_router.specs.declared.globals.GlobalHandler.{GlobalHandler}
use Rattle.click_router.specs.declared.globals.GlobalHandler.TheVariants as handler
use Rattle.click_router.specs.kept.GlobalNames.{name_of}

known : (h : GlobalHandler) (s : RouterState) → is_some (global_value s (name_of h)) ≡ true
unfolding global_value
known handler.Version s = refl
known handler.List s = refl
known handler.Config s = refl
known handler.FlatConfig s = refl
known handler.Classes s = refl
known handler.Overruns s = refl

pub classes_value : (s : RouterState) → global_value s (codes "classes") ≡ Some (class_list s.flat.elements)
unfolding global_value
classes_value s = refl

-- the code finds a handler with this name if and only if the definition has a value for it
pub has : (r : Option GlobalHandler) (name : List ℕ) → MatchOption r ((s : RouterState) → global_value s name ≡ None) (λ h. name ≡ name_of h) →
    (s : RouterState) → is_some r ≡ is_some (global_value s name)
has None name e s = ap is_some (sym (e s))
has (Some h) name e s = rw e (sym (known h s))
