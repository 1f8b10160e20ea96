use Rattle.click_router.proofs.OfOpenings.FirstStates.{states_of}
use Rattle.click_router.proofs.opening.prepare_flat.Goals as goal

pub resolve-requires : goal.resolve-requires
resolve-requires c = rw c.as_slice-2.ensures.value (states_of c.args.flat.elements c.in_ok-states.states.items (rw (← c.as_slice.ensures) c.in_ok-states.ensures.fresh))
