-- The result of `analyze`: the scopes of a configuration, or its first misuse.
use Rattle.std.specs.Prelude.{Option, Some, None}
use Rattle.click_text.specs.declared.syntax.Config.{Config}
use Rattle.click_scopes.specs.kept.FirstFault.{AreShort}
use Rattle.click_scopes.specs.kept.AllScopes.{AreAllScopes}
use Rattle.click_scopes.specs.Faults.{IsFirstWrong, IsFaultless}
use Rattle.click_scopes.specs.declared.first_fault.TokenFault.{TokenFault}
use Rattle.click_scopes.specs.declared.scopes.Scopes.{Scopes}
use Rattle.click_scopes.specs.declared.analysis.ScopeFault.{ScopeFault}
use Rattle.click_scopes.specs.declared.analysis.ScopeFault.TheVariants as why

-- the stored scopes are those of the configuration
pub record AreScopes (c : Config) (t : Scopes) : Type 0 where
  pub short : AreShort c.bodies
  pub all : AreAllScopes c t.scopes.items

-- the first misuse, or none
abbrev pub IsFirst : Config → Option TokenFault → Type 0
IsFirst c None = IsFaultless c
IsFirst c (Some w) = IsFirstWrong c w.kind w.span

-- the first misuse, or out of memory
abbrev pub IsScopeFault : Config → ScopeFault → Type 0
IsScopeFault c why.NoMemory = Unit {0}
IsScopeFault c (why.Wrong w) = IsFirstWrong c w.kind w.span
