use Rattle.std.proofs.Common.{◌+◌, take, refl, sym, subst}
use Rattle.click_scopes.specs.kept.CompoundFaults.{inputs_kept, IsUsed}
use Rattle.click_scopes.specs.declared.ports.PortsInUse.{PortsInUse}
use Rattle.click_scopes.proofs.OfConnections.UsedPorts.{inputs-yes, inputs-no}
use Rattle.click_scopes.proofs.ports.inputs_used.Goals as goal
use Rattle.click_scopes.proofs.ports.inputs_used.Goals.{in-Input, in_default}

pub loop-written_connection-preserved : goal.loop-written_connection-preserved
loop-written_connection-preserved c =
    let ks = c.args.written_connections.now in let i = c.loop-written_connection.written_connection-index in
    elim c.match-written_connection.branch [
      | in-Input w ↦
          subst (λ (u : PortsInUse). IsUsed (inputs_kept (take (i + 1) ks)) u.count u.ports) (sym w.used-is)
          (subst (λ ps. IsUsed ps w.add.new.self.count w.add.new.self.ports)
          (sym (inputs-yes ks i _ _ c.loop-written_connection-test.true refl w.in-Input.is)) (w.add.ensures (inputs_kept (take i ks)) c.loop-written_connection.invariant))
      | in_default w ↦
          subst (λ (u : PortsInUse). IsUsed (inputs_kept (take (i + 1) ks)) u.count u.ports) (sym w.used-is)
          (subst (λ ps. IsUsed ps c.loop-written_connection.used.count c.loop-written_connection.used.ports)
          (sym (inputs-no ks i _ _ c.loop-written_connection-test.true refl w.in_default.not-Input)) c.loop-written_connection.invariant)
    ]
