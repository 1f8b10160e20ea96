use Rattle.std.proofs.Common.{refl}
use Rattle.click_router.specs.Opened.{AreFresh, IsLawful}
use Rattle.click_router.proofs.OfOpenings.FirstStates.{states_of}
use Rattle.click_draw.proofs.OpenedNet.{holds-not-fails, lawful-with}
use Rattle.click_draw.proofs.picture.resolved.Goals as goal

pub resolve-requires : goal.resolve-requires
resolve-requires c = rw c.as_slice-2.ensures.value (states_of c.args.flat.now.elements c.in_ok-states.states.items (rw (← c.as_slice.ensures) c.in_ok-states.ensures))

pub unreachable-requires : goal.unreachable-requires
unreachable-requires c =
    let states = c.in_ok-states.states.items in
    let fresh : AreFresh c.args.flat.now.elements states = rw (← c.as_slice.ensures) c.in_ok-states.ensures in
    let lawful : IsLawful c.args.flat.now c.as_slice-2.result.now = rw c.as_slice-2.ensures.value (lawful-with c.args.flat.now states c.requires fresh) in
    let memory = c.in-Err.ensures.only lawful in
    holds-not-fails c.eq.result (rw c.eq.ensures (rw memory refl)) c.if-eq.false
