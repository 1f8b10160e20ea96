use Rattle.std.proofs.Common.{◌≡◌, ◌<◌, ◌++◌, [], ◌+◌, length, Option, Some, None, refl, sym, ap, ◌∙◌, subst, arith}
use Rattle.std.specs.List.{cons_option}
use Rattle.std.proofs.lemmas.List.{append-nil}
use Rattle.click_scopes.specs.declared.written_connections.WrittenConnection.{WrittenConnection}
use Rattle.click_scopes.proofs.OfConnections.ConnectionPairs.{Paired, paired-next, paired-all, paired-written_connections}
use Rattle.click_scopes.proofs.written_connections.written_connections_between.Goals as goal
use Rattle.click_scopes.proofs.written_connections.written_connections_between.Goals.{in-Some+in_ok-push, in_default}

not-some : (o : Option WrittenConnection) → ((x : WrittenConnection) → o ≡ Some x → ⊥) → o ≡ None
not-some None h = refl
not-some (Some x) h = absurd (h x refl)

pub loop-place-preserved : goal.loop-place-preserved
loop-place-preserved c =
    let ends = c.args.ends.now in let ws = c.args.written.now in let i = c.loop-place.place in let js = c.loop-place.written_connections in
    let m : i < length ws = c.loop-place-test.true in
    let l : i < length ends = (let r = c.requires in omega (arith, m, r)) in
    elim c.match-written_connection_of.branch [
      | in-Some+in_ok-push w ↦
          subst (λ b. Paired ends ws c.match-written_connection_of.written_connections b (i + 1)) (sym w.before-is)
          (paired-next ends ws js c.match-written_connection_of.written_connections c.loop-place.before i _ _ _ _ c.written_connection_of.result l m refl refl c.written_connection_of.ensures
          (w.written_connections-is ∙ w.in_ok-push.ensures.ok ∙ ap (λ o. js ++ cons_option o []) (sym w.in-Some.is)) c.loop-place.invariant)
      | in_default w ↦
          subst (λ b. Paired ends ws c.match-written_connection_of.written_connections b (i + 1)) (sym w.before-is)
          (paired-next ends ws js c.match-written_connection_of.written_connections c.loop-place.before i _ _ _ _ c.written_connection_of.result l m refl refl c.written_connection_of.ensures
          (w.written_connections-is ∙ sym (append-nil js) ∙ ap (λ o. js ++ cons_option o []) (sym (not-some c.written_connection_of.result w.in_default.not-Some))) c.loop-place.invariant)
    ]

pub returns : goal.returns
returns c = λ config names ls visible statements ends ports.
    paired-written_connections config names ls visible statements c.args.ends.now c.args.written.now c.loop-place.written_connections ends ports
    (paired-all c.args.ends.now c.args.written.now c.loop-place.written_connections c.loop-place.before c.loop-place.place c.loop-place-test.false c.loop-place.invariant)
