use Rattle.click_classes.proofs.OfPatterns.ClauseTexts.{clause-full, clause-masked}
use Rattle.click_classes.proofs.value_laws.a_clause_is_its_parts.Goals as goal

pub returns : goal.returns
returns c = record { digits = clause-full; masked = clause-masked }
