use Rattle.click_router.proofs.OfCalls.HandlerChecks.{foretells_reads, foretells_writes}
use Rattle.click_router.proofs.laws.checks_foretell_calls.Goals as goal

pub returns-clause-read : goal.returns-clause-read
returns-clause-read c = foretells_reads

pub returns-clause-write : goal.returns-clause-write
returns-clause-write c = foretells_writes
