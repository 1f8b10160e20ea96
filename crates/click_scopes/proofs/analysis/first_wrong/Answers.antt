use Rattle.std.proofs.Common.{sym, subst}
use Rattle.click_scopes.specs.Analysis.{IsFirst}
use Rattle.click_scopes.proofs.OfFaults.FirstWrongUse.{first-of-both}
use Rattle.click_scopes.proofs.analysis.first_wrong.Goals as goal

pub returns : goal.returns
returns c =
    subst (IsFirst c.args.config.now) (sym c.first_of.ensures)
    (first-of-both c.args.config.now c.in_ok-name_fault.name_fault c.in_ok-compound_fault.compound_fault c.in_ok-name_fault.ensures c.in_ok-compound_fault.ensures)
