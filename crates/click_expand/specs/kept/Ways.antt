-- Flat names by the tables: the way outwards from an element.
use Rattle.std.specs.Prelude.{ℕ, List, [], ◌∷◌, ◌++◌, slice_get, nat_lt, Option, Some, None, if◌then◌else◌}
use Rattle.click_scopes.specs.kept.Lookups.{scope_name}
use Rattle.click_scopes.specs.declared.scopes.Scope.{Scope as ScopeKept}
use Rattle.click_expand.specs.declared.instances.tree.Place.{Place}
use Rattle.click_expand.specs.declared.instances.tree.Instance.{Instance as InstanceKept}

-- the local name of the element at a place
abbrev pub instance_name : List ScopeKept → ℕ → Option InstanceKept → List ℕ
instance_name scopes i None = []
instance_name scopes i (Some k) = scope_name i (slice_get scopes k.scope)

abbrev pub name_of_place : List ScopeKept → List InstanceKept → Place → List ℕ
name_of_place scopes instances p = instance_name scopes p.element (slice_get instances p.within)

-- the place of an instance, if it is in an instance with a lower index
abbrev pub smaller : Option Place → ℕ → Option Place
smaller None u = None
smaller (Some p) u = if nat_lt p.within u then Some p else None

abbrev pub enclosing_of_instance : Option InstanceKept → ℕ → Option Place
enclosing_of_instance None u = None
enclosing_of_instance (Some k) u = smaller k.enclosing u

abbrev pub enclosing_in : List InstanceKept → ℕ → Option Place
enclosing_in instances u = enclosing_of_instance (slice_get instances u) u

-- the names, each followed by `/`
abbrev pub slashed : List (List ℕ) → List ℕ
slashed [] = []
slashed (n ∷ ns) = n ++ 47 ∷ slashed ns
