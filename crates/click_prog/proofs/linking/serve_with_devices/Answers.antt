use Rattle.std.proofs.Common.{◌≡◌, ap, [], ◌∷◌}
use Rattle.std.proofs.lemmas.List.Elements.{All-nil, All-cons, All-head}
use Rattle.click_prog.specs.declared.serving.RunSetup.{RunSetup}
use Rattle.click_prog.proofs.Paged.{page-quiet}
use Rattle.click_prog.proofs.Quiet.{Idle, Quiet}
use Rattle.click_prog.proofs.linking.serve_with_devices.Goals as goal

pub serve_with_companion-requires-in-Some-clause-quiet : goal.serve_with_companion-requires-in-Some-clause-quiet
serve_with_companion-requires-in-Some-clause-quiet g c κs within = λ old new done idle does.
    All-cons Quiet new [] (page-quiet c.setup.inside.0.1.0.readonly c.in-Some.http_listener.port old new (All-head Idle old [] idle) does) (All-nil Quiet)

pub returns-in-Some : goal.returns-in-Some
returns-in-Some g c =
    let readonly : c.setup.inside.0.1.0.readonly ≡ c.args.setup.plan.readonly = ap (λ (s : RunSetup). s.plan.readonly) c.setup.view_is in
    rw c.in-Some.is (rw readonly at c.serve_with_companion-in-Some.ensures)
