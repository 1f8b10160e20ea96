use Rattle.click_classes.proofs.OfPatterns.ClauseBytes.{holds-wanted, holds-negated}
use Rattle.click_classes.proofs.value_laws.a_clause_holds_byte_by_byte.Goals as goal

pub returns : goal.returns
returns c = record { wanted = holds-wanted; negated = holds-negated }
