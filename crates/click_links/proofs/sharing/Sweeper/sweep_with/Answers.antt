use Rattle.std.proofs.Common.{Some, ap, ◌∙◌}
use Rattle.click_links.proofs.ForwarderEquations.{known_sweep}
use Rattle.click_links.proofs.sharing.Sweeper.sweep_with.Goals as goal

pub invariant_of-forwarder : goal.invariant_of-forwarder
invariant_of-forwarder g c =
    let o = c.args.forwarder.now in
    let s = c.sweep.ensures.same in
    record {
      same = (ap Some s.0 ∙ o.same.0, s.1 ∙ o.same.1, s.2 ∙ o.same.2);
      forwards = known_sweep _ _ _ _ _ _ _ _ c.args.self.now.of o.forwards c.sweep.ensures.forwards;
    }
