use Rattle.std.proofs.Common.{Option, subst}
use Rattle.std.proofs.lemmas.Result.{err_from_is_err_and}
use Rattle.click_router.specs.declared.call.Call.{Call}
use Rattle.click_control.specs.Serving.{Answered}
use Rattle.click_control.proofs.SessionProgress.{Serves-no_memory, Serves-held, Serves-reply, Goes-replied}
use Rattle.click_control.proofs.serving.take_up.Goals as goal

pub returns-in_default : goal.returns-in_default
returns-in_default g c = λ most first was had left held old new reads h one.
    Serves-no_memory g.P.Port.asks g.T.Turns.turn g.T.Turns.done c.args.readonly most first _ was _ had left held _ old c.args.taken reads h

pub returns-then-not-before : goal.returns-then-not-before
returns-then-not-before g c =
    let refused = rw c.if-not-before.true at c.before-2.ensures in
    λ most first was had left held old new reads h one.
    Serves-held g.P.Port.asks g.T.Turns.turn g.T.Turns.done c.args.readonly most first c.args.port.now was c.args.turns.now c.before-2.new.self had left held _ old new c.args.taken reads
    c.args.command h one refused

pub returns-in_err-ask_and_reply : goal.returns-in_err-ask_and_reply
returns-in_err-ask_and_reply g c =
    let p = err_from_is_err_and c.from_residual.result c.from_residual.ensures.1 in
    let given = rw c.if-not-before.false at c.before-2.ensures in
    let told = c.in_err-ask_and_reply.ensures in
    let asked = subst (λ (k : Option Call). Answered g.P.Port.asks c.args.port.now k told.0 c.ask_and_reply.new.port) c.in-Ok.ensures.call told.1 in
    let wrote = rw (c.in-Ok.ensures.replies told.0) at told.2 in
    rw (p.1, p.2) (λ most first was had left held old new reads h one.
    Serves-reply g.P.Port.asks g.T.Turns.turn g.T.Turns.done c.args.readonly most _ first c.args.port.now c.ask_and_reply.new.port was c.args.turns.now c.before-2.new.self had left held _ _ old new
    c.args.taken reads c.args.command told.0 h one given asked wrote)

pub returns : goal.returns
returns g c =
    let given = rw c.if-not-before.false at c.before-2.ensures in
    let told = c.in_ok-ask_and_reply.ensures in
    let asked = subst (λ (k : Option Call). Answered g.P.Port.asks c.args.port.now k told.0 c.ask_and_reply.new.port) c.in-Ok.ensures.call told.1 in
    let wrote = rw (c.in-Ok.ensures.replies told.0) at told.2 in
    rw c.ending_of-ending.ensures (λ most first was had left held old new reads h one.
    Goes-replied g.P.Port.asks g.T.Turns.turn g.T.Turns.done c.args.readonly most c.args.command first c.args.port.now c.ask_and_reply.new.port was c.args.turns.now c.before-2.new.self
    c.after.new.self had left held _ _ old new c.args.taken reads told.0 h one given c.after.ensures asked wrote)
