use Rattle.click_http.specs.Leading.{Leads}
use Rattle.click_http.proofs.serving.serve_places.Given as goal

abbrev pub invariant-loop-place : goal.invariant-loop-place
invariant-loop-place g l = Leads g.S.Service.answers l.initial.service l.service
