-- Misuses of names, classes and declarations at the indices of the table, and the first of them.
use Rattle.std.specs.Prelude.{◌≡◌, ◌⊎◌, ℕ, ◌<◌, List, length, slice_get, nat_lt, Option, Some, None}
use Rattle.click_text.specs.declared.syntax.Span.{Span}
use Rattle.click_text.specs.declared.syntax.Config.{Config}
use Rattle.click_scopes.specs.Scopes.{inside, formals_of}
use Rattle.click_scopes.specs.kept.FirstFault.{token_fault, IsWrongScopeElement, IsWrongFormal}
use Rattle.click_scopes.specs.kept.Lookups.{elements_by}
use Rattle.click_scopes.specs.declared.scopes.Scope.{Scope as ScopeKept}
use Rattle.click_scopes.specs.declared.classes.ResolvedClass.{ResolvedClass}
use Rattle.click_scopes.specs.declared.classes.ClassEntry.{ClassEntry}
use Rattle.click_scopes.specs.declared.fault.WrongUse.TheVariants as kind
use Rattle.click_scopes.specs.declared.first_fault.TokenFault.{TokenFault}

-- An element of the scope at this index misuses a name, class or declaration.
abbrev pub IsWrongAt : Config → List ScopeKept → ℕ → TokenFault → Type 0
IsWrongAt c all place w =
    let ls = elements_by (slice_get all place) in
    IsWrongScopeElement c.text c.bodies (nat_lt place (length c.bodies)) ls (length ls) w

-- An element or a parameter of the body with index b is misused.
abbrev pub IsWrongWithin : Config → List ScopeKept → ℕ → TokenFault → Type 0
IsWrongWithin c all b w = IsWrongAt c all b w ⊎ IsWrongFormal c.text (formals_of c (inside b)) (length (formals_of c (inside b))) w

-- One of the bodies with an index below `end` has this misuse.
pub record IsNameFaultWithin (c : Config) (all : List ScopeKept) (end : ℕ) (w : TokenFault) : Type 0 where
  pub place : ℕ
  pub within : place < end
  pub is : IsWrongWithin c all place w

-- the word of a synonym that names no class
abbrev pub original_at : Option Span → Option ResolvedClass → Option TokenFault
original_at None m = None
original_at (Some s) None = Some (token_fault kind.UnknownClass s)
original_at (Some s) (Some m) = None

-- One of the definitions with an index below `end` is a synonym of an unknown class.
pub record IsWrongEntry (class_table : List ClassEntry) (end : ℕ) (w : TokenFault) : Type 0 where
  pub place : ℕ
  pub entry : ClassEntry
  pub within : place < end
  pub there : slice_get class_table place ≡ Some entry
  pub is : original_at entry.original entry.class ≡ Some w
