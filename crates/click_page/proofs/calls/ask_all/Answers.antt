use Rattle.std.proofs.Common.{◌≡◌, List, [], ◌∷◌, ◌++◌, length, Option, sym, subst, ap, ◌∙◌, append_assoc, arith}
use Rattle.std.specs.Vec.Iter.{into_iter_items}
use Rattle.click_router.specs.declared.call.Call.{Call}
use Rattle.click_page.specs.kept.Calls.{AreNoPolls}
use Rattle.click_page.proofs.CommandCalls.{asked-none, asked-more}
use Rattle.click_page.proofs.calls.ask_all.Goals as goal

pub loop-call-init : goal.loop-call-init
loop-call-init g c =
    let asks = g.P.Port.asks in
    let port = c.args.port.now in
    let all : into_iter_items c.into_iter-call-iterator.result ≡ c.args.calls.items = c.into_iter-call-iterator.ensures.into_iter_gives.0 in
    record {
      asked = asked-none asks port c.args.answers.items c.requires.none_yet;
      rest = sym all;
      no_polls = subst (λ (l : List (Option Call)). AreNoPolls l) (sym all) c.requires.no_polls;
      room = omega (arith, ap length all, ap length c.requires.none_yet, c.requires.room, c.args.answers.ok.0);
      can_next = tt;
      finite = tt;
    }

pub loop-call-preserved : goal.loop-call-preserved
loop-call-preserved g c =
    let asks = g.P.Port.asks in
    let h = c.loop-call.invariant in
    let call = c.in-Some.call in
    let before = c.loop-call.yielded in
    let coming = into_iter_items c.next.new.self in
    let first : into_iter_items c.loop-call.call-iterator ≡ call ∷ coming = c.in-Some.ensures.steps.0 in
    record {
      asked = asked-more asks c.args.port.now c.loop-call.port c.ask_one.new.port before c.loop-call.answers.items c.push_reserved.new.self.items call
          c.ask_one.result c.push_reserved.ensures.items h.asked c.ask_one.ensures;
      rest = h.rest ∙ ap (λ (l : List (Option Call)). before ++ l) first ∙ sym (append_assoc before (call ∷ []) coming);
      no_polls = (subst (λ (l : List (Option Call)). AreNoPolls l) first h.no_polls).1;
      room = omega (arith, h.room, ap length first, c.push_reserved.ensures.len, c.push_reserved.ensures.capacity);
      can_next = tt;
      finite = tt;
    }
