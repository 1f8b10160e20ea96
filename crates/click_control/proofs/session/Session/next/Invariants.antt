use Rattle.std.proofs.Common.{length}
use Rattle.click_control.specs.Taking.{GivesNone}
use Rattle.click_control.proofs.session.Session.next.Given as goal

-- only blank lines were taken up
abbrev pub invariant-loop-error : goal.invariant-loop-error
invariant-loop-error l = GivesNone l.initial.self l.self

abbrev pub decreases-loop-error : goal.decreases-loop-error
decreases-loop-error l = length l.self.bytes
