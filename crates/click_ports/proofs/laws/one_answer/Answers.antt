use Rattle.click_ports.proofs.Lawfulness.{one-first, lawful-none}
use Rattle.click_ports.proofs.laws.one_answer.Goals as goal

pub returns-clause-one : goal.returns-clause-one
returns-clause-one c = one-first

pub returns-clause-lawful : goal.returns-clause-lawful
returns-clause-lawful c = lawful-none
