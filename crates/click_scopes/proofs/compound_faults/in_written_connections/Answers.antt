use Rattle.std.proofs.Common.{◌+◌, sym, subst, arith}
use Rattle.std.proofs.lemmas.Option.{slice_get-get_or}
use Rattle.click_scopes.specs.kept.FirstFault.{IsLeast}
use Rattle.click_scopes.specs.kept.CompoundFaults.{Among, IsWrongWrittenConnection}
use Rattle.click_scopes.proofs.OfFaults.PlaceCompoundFaults.{among-none, among-next, among-all, written_connection-here}
use Rattle.click_scopes.proofs.compound_faults.in_written_connections.Goals as goal

pub loop-written_connection-init : goal.loop-written_connection-init
loop-written_connection-init c = among-none (IsWrongWrittenConnection c.args.scope_elements.now c.args.ports.now c.args.written_connections.now)

pub loop-written_connection-preserved : goal.loop-written_connection-preserved
loop-written_connection-preserved c =
    let ls = c.args.scope_elements.now in let ports = c.args.ports.now in let ks = c.args.written_connections.now in let i = c.loop-written_connection.written_connection-index in
    let C = IsWrongWrittenConnection ls ports ks in
    subst (IsLeast (Among C (i + 1))) (sym c.first_of-first.ensures)
    (among-next C i c.loop-written_connection.first c.first_of.result c.loop-written_connection.invariant
    (written_connection-here ls ports ks i _ c.wrong_source-source.result c.wrong_target-target.result c.first_of.result (slice_get-get_or ks i _ c.loop-written_connection-test.true)
    c.wrong_source-source.ensures c.wrong_target-target.ensures c.first_of.ensures))

pub returns : goal.returns
returns c =
    among-all (IsWrongWrittenConnection c.args.scope_elements.now c.args.ports.now c.args.written_connections.now) c.loop-written_connection.written_connection-index _ c.loop-written_connection.first
    (let a = c.loop-written_connection.auto.written_connection-index-end in let t = c.loop-written_connection-test.false in omega (arith, a, t)) c.loop-written_connection.invariant
