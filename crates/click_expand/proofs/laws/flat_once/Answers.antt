use Rattle.click_scopes.proofs.OfBodies.NestedBodies.{spelled-nested}
use Rattle.click_expand.proofs.OfUniqueness.OneFlatForm.{flat-once, flat-no-fault}
use Rattle.click_expand.proofs.OfUniqueness.OneFault.{spelled-fault-once}
use Rattle.click_expand.proofs.laws.flat_once.Goals as goal

pub returns-clause-flat : goal.returns-clause-flat
returns-clause-flat c = λ text config flat other spells h k. flat-once config (spelled-nested text config spells) flat other h k

pub returns-clause-fault : goal.returns-clause-fault
returns-clause-fault c = λ text config fault other spells h k. spelled-fault-once text config (spelled-nested text config spells) spells fault other h k

pub returns-clause-either : goal.returns-clause-either
returns-clause-either c = λ text config flat fault spells h k. flat-no-fault config (spelled-nested text config spells) flat fault h k
