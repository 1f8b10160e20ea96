use Rattle.click_http.specs.Leading.{Leads}
use Rattle.click_http.proofs.peer.Peer.turn.Given as goal

abbrev pub invariant-loop : goal.invariant-loop
invariant-loop g l = Leads g.S.Service.answers l.initial.service l.service
