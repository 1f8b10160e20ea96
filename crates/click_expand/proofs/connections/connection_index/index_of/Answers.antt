use Rattle.std.proofs.Common.{refl}
use Rattle.click_scopes.specs.declared.written_connections.WrittenConnection.{WrittenConnection}
use Rattle.click_scopes.specs.declared.written_connections.Owner.TheVariants as owner
use Rattle.click_expand.proofs.OfConnections.ConnectionIndex.{index-more}
use Rattle.click_expand.proofs.connections.connection_index.index_of.Goals as goal

blank : WrittenConnection
blank = record { from = record { owner = owner.Input; first = record { start = 0; end = 0 } }; out_port = 0; to = record { owner = owner.Input; first = record { start = 0; end = 0 } }; in_port = 0 }

pub loop-written_connection-preserved : goal.loop-written_connection-preserved
unfolding blank
loop-written_connection-preserved c =
    index-more c.args.written_connections.now c.loop-written_connection.written_connection-index _ blank c.loop-written_connection.index.ends.entries c.add.new.self.ends.entries c.loop-written_connection-test.true refl c.loop-written_connection.invariant
    c.in_ok-add.ensures.added
