use Rattle.click_http.specs.Accepting.{IsAsked}
use Rattle.click_http.proofs.sockets.Sockets.accept_connections.Given as goal

abbrev pub invariant-loop : goal.invariant-loop
invariant-loop l = IsAsked l.fn.self.accept_state l.self.accept_state l.now
