-- The fault if the tokens end and the parser needs another one.
use Rattle.std.specs.Prelude.{ℕ}
use Rattle.click_text.specs.declared.syntax.FaultKind.TheVariants as kind
use Rattle.click_text.specs.declared.syntax.TextFault.{TextFault}
use Rattle.click_text.specs.declared.syntax.Ending.{Ending}
use Rattle.click_text.specs.declared.syntax.Ending.TheVariants as ending
use Rattle.click_text.specs.Faults.{fault}

-- the fault at the end of a text of n bytes
abbrev pub end_fault : ℕ → Ending → TextFault
end_fault n ending.Whole = fault kind.Unexpected n n
end_fault n (ending.Stuck f) = f
