use Rattle.std.proofs.Common.{◌↔◌, IsTrue, IsSome, subst}
use Rattle.click_engine.specs.Rounds.{source_of}
use Rattle.click_router.specs.State.{RouterState}
use Rattle.click_router.proofs.OfCalls.DeviceSources.{no_device}
use Rattle.click_router.proofs.router.Router.has_source.Goals as goal

pub returns-clause-polled : goal.returns-clause-polled
returns-clause-polled g c =
    let has = λ (s : RouterState). IsTrue c.has_source.result ↔ IsSome (source_of s.plant c.args.device.now) in
    let source = subst has c.self.view_is (subst has c.deref.ensures c.has_source.ensures) in
    λ packets next reply is. no_device c.args.self.now next c.args.device.now packets reply c.has_source.result source is
