use Rattle.std.proofs.Common.{◌↔◌, IsTrue, IsSome, subst}
use Rattle.click_engine.specs.Rounds.{sink_of}
use Rattle.click_router.specs.State.{RouterState}
use Rattle.click_router.proofs.OfCalls.DeviceSources.{no_sink}
use Rattle.click_router.proofs.router.Router.has_sink.Goals as goal

pub returns-clause-asked : goal.returns-clause-asked
returns-clause-asked g c =
    let has = λ (s : RouterState). IsTrue c.has_sink.result ↔ IsSome (sink_of s.plant c.args.device.now) in
    let sink = subst has c.self.view_is (subst has c.deref.ensures c.has_sink.ensures) in
    λ next reply is. no_sink c.args.self.now next c.args.device.now reply c.has_sink.result sink is
