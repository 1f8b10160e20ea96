use Rattle.std.proofs.Common.{◌≡◌, true, false}
use Rattle.click_control.proofs.SessionProgress.{Serves-open}
use Rattle.click_control.proofs.serving.serve.Goals as goal

pub returns : goal.returns
returns g c =
    Serves-open g.P.Port.asks _ _ c.args.readonly (λ t u n given. let e : false ≡ true = given in cc) c.args.port.now _ _ _ _ _ _ _ _ c.serve_turns.ensures
