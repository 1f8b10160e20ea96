use Rattle.std.proofs.Common.{◌<◌, ◌+◌, length, take, refl, sym, ap, ◌∙◌, subst, arith}
use Rattle.std.proofs.lemmas.List.{length_push}
use Rattle.click_scopes.specs.kept.ConnectionEnds.{names_among, scope_elements_in, AreEndsKept}
use Rattle.click_scopes.proofs.OfConnections.EndOwners.{ends-none, ends-next, ends-all}
use Rattle.click_scopes.proofs.written_connections.ends_at.Goals as goal

pub loop-place-init : goal.loop-place-init
loop-place-init c = record {
  count = ap length c.in_ok-ends.ensures.items;
  known = λ ps known same.
      let config = c.args.config.now in let b = c.args.in_body in
      subst (λ es. AreEndsKept (scope_elements_in config.text b ps) config (names_among config.text b ps) 0 es (take 0 ps)) (sym c.in_ok-ends.ensures.items)
      (ends-none (scope_elements_in config.text b ps) config (names_among config.text b ps) ps);
}

pub loop-place-preserved : goal.loop-place-preserved
loop-place-preserved c =
    let ws = c.args.written.now in let numbers = c.args.numbers.now in let i = c.loop-place.place in let v = c.loop-place.invariant in
    let l : i < length ws = c.loop-place-test.true in
    let ln : i < length numbers = (let m = c.requires.as_many in omega (arith, l, m)) in
    record {
      count = ap length c.in_ok-push.ensures.items ∙ length_push c.loop-place.ends.items c.end_at.result ∙ ap (λ n. n + 1) v.count;
      known = λ ps known same.
          ends-next c.args.config.now c.args.in_body ps c.args.declared.now.names c.args.declared.now.firsts.items numbers known ws same i _ _ 0 _ c.end_at.result
          c.loop-place.ends.items c.push.new.self.items l refl ln refl (λ q. c.end_at.ensures ps q known) c.in_ok-push.ensures.items (v.known ps known same);
    }

pub returns : goal.returns
returns c = record {
  as_many = (let v = c.loop-place.invariant.count in let a = c.loop-place.auto.place-end in let t = c.loop-place-test.false in omega (arith, v, a, t));
  ends = λ ps known same.
      ends-all c.args.config.now c.args.in_body ps c.args.declared.now.names c.args.declared.now.firsts.items c.args.numbers.now known c.args.written.now same c.loop-place.place
      c.loop-place.ends.items c.loop-place-test.false (c.loop-place.invariant.known ps known same);
}
