use Rattle.std.proofs.Common.{⊎_elim}
use Rattle.crossbeam_queue.specs.Passes.{view, ruled_capacity}
use Rattle.crossbeam_queue.specs.Fifo.{Pushes}
use Rattle.click_desk.specs.Rule.{SingleSlot}
use Rattle.click_desk.specs.Views.{Gives, MayGive, IsFirstGive}
use Rattle.click_desk.proofs.QueueMoves.{gives, opens, empties}
use Rattle.click_desk.proofs.desk.give.Goals as goal

pub push_as-requires-clause-rule : goal.push_as-requires-clause-rule
push_as-requires-clause-rule g c =
    let n = ruled_capacity c.args.queue.now in
    let pass = c.args.pass.now in
    let x = c.args.logged_router in (
      ⊎_elim {C = Pushes SingleSlot n pass.id (view pass) x (Gives (view pass) x)} (λ (m : MayGive (view pass) x). gives n pass.id (view pass) x m) (λ (f : IsFirstGive (view pass) x). opens n pass.id (view pass) x f.0 f.1) c.requires.rule,
      empties pass.id (view pass),
    )
