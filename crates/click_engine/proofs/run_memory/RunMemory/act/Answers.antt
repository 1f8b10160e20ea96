use Rattle.std.proofs.Common.{◌∙◌, ap, sym, length}
use Rattle.std.proofs.lemmas.List.{with_items_is}
use Rattle.click_engine.proofs.run_memory.RunMemory.act.Goals as goal

pub returns-clause-acts : goal.returns-clause-acts
returns-clause-acts c =
    let given = c.as_mut_slice.ensures.value in
    let kept = with_items_is c.args.self.now.elements c.act_at.new.elements (c.act_at.auto.elements ∙ ap length given ∙ sym c.args.self.now.elements.ok.0) in
    rw kept (rw given at (c.act_at.ensures.acts.acts c.args.self.now.left c.args.self.now.overruns))
