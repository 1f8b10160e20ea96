use Rattle.click_expand.proofs.OfLaws.OwnElements.{own-elements}
use Rattle.click_expand.proofs.OfLaws.WrittenConnections.{written-of, all-written}
use Rattle.click_expand.proofs.laws.flat_without_compounds.Goals as goal

pub returns-clause-elements : goal.returns-clause-elements
returns-clause-elements c = λ config flat none h. own-elements config flat none h

pub returns-clause-written : goal.returns-clause-written
returns-clause-written c = λ config flat k none h i. written-of config none flat k h i

pub returns-clause-all : goal.returns-clause-all
returns-clause-all c = λ config flat k none h w. all-written config none flat k h w
