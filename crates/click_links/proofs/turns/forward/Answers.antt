use Rattle.std.proofs.Common.{refl}
use Rattle.click_links.proofs.Gifts.{forwards_none, forwards_same, polled_then, breaks_forwards, until_forwards}
use Rattle.click_links.proofs.turns.forward.Goals as goal

pub returns-in_err-entered-clause-forwards : goal.returns-in_err-entered-clause-forwards
returns-in_err-entered-clause-forwards g c = forwards_same _ _ _ _ _ _ _ (forwards_none _ _ _) c.in_err-entered.ensures.err refl

pub returns-in_err-tally-clause-forwards : goal.returns-in_err-tally-clause-forwards
returns-in_err-tally-clause-forwards g c =
    let h = c.in_ok-entered.ensures.ok in
    polled_then _ _ _ _ _ _ _ h.0 h.1 h.2 h.3 (breaks_forwards _ _ _ _ _ c.in_err-tally.ensures.err)

pub returns-clause-forwards : goal.returns-clause-forwards
returns-clause-forwards g c =
    let h = c.in_ok-entered.ensures.ok in
    polled_then _ _ _ _ _ _ _ h.0 h.1 h.2 h.3 (until_forwards _ _ _ _ _ _ _ c.in_ok-tally.ensures.ok)
