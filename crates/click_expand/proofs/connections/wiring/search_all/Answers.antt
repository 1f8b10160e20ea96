use Rattle.std.proofs.Common.{[], arith}
use Rattle.click_expand.specs.Flat.{most_connections}
use Rattle.click_expand.specs.kept.Wiring.{IsFromInstance}
use Rattle.click_expand.proofs.OfConnections.OutputSearches.{gathers-more, all-sound, all-complete}
use Rattle.click_expand.proofs.connections.wiring.search_all.Goals as goal

pub loop-within-preserved : goal.loop-within-preserved
loop-within-preserved c =
    gathers-more (IsFromInstance c.args.instances.now c.args.indices.now) most_connections c.loop-within.within [] c.loop-within.found.keys c.search_instance.new.found.keys c.loop-within.invariant
    c.in_ok-search_instance.ensures.more c.in_ok-search_instance.ensures.all

pub returns-clause-sound : goal.returns-clause-sound
returns-clause-sound c = all-sound c.args.instances.now c.args.indices.now most_connections c.loop-within.within c.loop-within.found.keys c.loop-within.invariant

pub returns-clause-all : goal.returns-clause-all
returns-clause-all c =
    all-complete c.args.instances.now c.args.indices.now most_connections c.loop-within.within c.loop-within.found.keys (let t = c.loop-within-test.false in omega (arith, t)) c.loop-within.invariant
