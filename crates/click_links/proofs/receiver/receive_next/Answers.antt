use Rattle.std.proofs.Common.{inl, inr, refl}
use Rattle.click_links.proofs.receiver.receive_next.Goals as goal

pub returns-in-Ok-None-clause-ok : goal.returns-in-Ok-None-clause-ok
returns-in-Ok-None-clause-ok g c =
    let h = rw c.in-Ok-None.field-0-is at c.in-Ok-None.ensures.ok in
    inl (h.0, h.1, refl)

pub returns-in-Ok-Some-clause-ok : goal.returns-in-Ok-Some-clause-ok
returns-in-Ok-Some-clause-ok g c =
    let h = rw c.in-Ok-Some.field-0-is at c.in-Ok-Some.ensures.ok in
    inr (h.0, c.in-Ok-Some.fate, h.1, c.add.ensures)
