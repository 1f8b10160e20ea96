use Rattle.std.proofs.Common.{◌++◌, ◌∷◌, [], List, map, ◌∙◌, ap, subst, sym, refl}
use Rattle.std.proofs.lemmas.List.{with_items_is}
use Rattle.click_rings.specs.Feeds.{ConsumerState, name_of, has_feed}
use Rattle.click_router.specs.One.{Answers}
use Rattle.click_router.specs.declared.call.Call.{Call}
use Rattle.click_desk.specs.declared.logged_router.RouterLog.{RouterLog}
use Rattle.click_desk.specs.declared.entry.Entry.{Entry}
use Rattle.click_desk.specs.DeskSetups.{setup_of}
use Rattle.click_desk.specs.LoggedRouterState.{LoggedRouterState}
use Rattle.click_desk.specs.History.{entry}
use Rattle.click_desk.proofs.EnteredCalls.{kept_poll, drawn_by, names_drawn, may_take}
use Rattle.click_desk.proofs.logged_router.LoggedRouter.enter_kept_poll.Goals as goal

pub invariant_of-self-2 : goal.invariant_of-self-2
invariant_of-self-2 g c =
    let router = c.self.inside.router in
    let d = c.draw-call.ensures in
    let vec = c.poll_size-count.new.consumers in
    let call = c.draw-call.result.0 in
    let e : Entry = entry c.args.number call c.in-Ok-copy_twice.entered in
    kept_poll c.self.inside.router_log.value c.deref_mut-router_log.result.now router c.step_stored.new.self e c.add.new.self _ c.args.device.now d.0
    c.deref_mut-router_log.ensures.value c.self.invariant d.1
    (drawn_by c.args.device.now d.0 _ vec.items _ c.draw-call.new.consumers _ vec.len c.poll_size-count.ensures.consumers c.as_mut_slice.ensures.value vec.ok.0 (with_items_is vec c.draw-call.new.consumers) d.3)
    (subst (λ r. Answers router call c.step_stored.new.self r) (sym c.in-Ok-copy_twice.ensures.kept.0) c.in-Ok-step_stored.ensures.answer)
    (c.add.ensures.items ∙ ap (λ l. l ++ e ∷ []) c.reserve.ensures.same.1) (c.add.ensures.keeps ∙ c.reserve.ensures.same.0)

pub returns-clause-legal : goal.returns-clause-legal
returns-clause-legal g c = (invariant_of-self-2 g c).0

pub returns-clause-polled : goal.returns-clause-polled
returns-clause-polled g c = (invariant_of-self-2 g c).1

pub returns-clause-options : goal.returns-clause-options
returns-clause-options g c =
    let log : RouterLog = c.deref_mut-router_log.result.now in
    let d = c.draw-call.ensures in
    let vec = c.poll_size-count.new.consumers in
    let drawn = drawn_by c.args.device.now d.0 _ vec.items _ c.draw-call.new.consumers _ vec.len c.poll_size-count.ensures.consumers c.as_mut_slice.ensures.value vec.ok.0 (with_items_is vec c.draw-call.new.consumers) d.3 in
    ap (λ l. setup_of log.options l) (names_drawn c.args.device.now d.0 log.consumers.items _ drawn)
    ∙ (ap (λ (l : RouterLog). setup_of l.options (map name_of l.consumers.items)) c.deref_mut-router_log.ensures.value ∙ ap (λ (b : LoggedRouterState). b.options) c.self.view_is)

pub returns-clause-ok : goal.returns-clause-ok
returns-clause-ok g c =
    let device = c.args.device.now in
    let d = c.draw-call.ensures in
    let vec = c.poll_size-count.new.consumers in
    let drawn = drawn_by device d.0 _ vec.items _ c.draw-call.new.consumers _ vec.len c.poll_size-count.ensures.consumers c.as_mut_slice.ensures.value vec.ok.0 (with_items_is vec c.draw-call.new.consumers) d.3 in
    let slice = c.as_mut_slice.ensures.value ∙ c.poll_size-count.ensures.consumers in
    let answer = subst (λ (x : Call). Answers c.self.inside.router x c.step_stored.new.self c.in-Ok-step_stored.reply) d.1 c.in-Ok-step_stored.ensures.answer in
    let kept = c.in-Ok-copy_twice.ensures.kept in
    let e : Entry = entry c.args.number c.draw-call.result.0 c.in-Ok-copy_twice.entered in
    let was = ap (λ (l : RouterLog). l.entries.items) c.deref_mut-router_log.ensures.value ∙ ap (λ (b : LoggedRouterState). b.entries) c.self.view_is in (
      d.0,
      may_take _ device c.args.most _ d.0 c.self.inside.router c.step_stored.new.self c.in-Ok-step_stored.reply _ c.poll_size-count.ensures.most c.poll_size-count.ensures.nothing d.4
          (λ away. d.5 (ap (λ (l : List ConsumerState). has_feed device (map name_of l)) slice ∙ (ap (λ l. has_feed device l) (sym (names_drawn device d.0 c.deref_mut-router_log.result.now.consumers.items _ drawn)) ∙ away))) answer refl,
      (c.add.ensures.items ∙ ap (λ l. l ++ e ∷ []) c.reserve.ensures.same.1) ∙ (λ i. was i ++ entry c.args.number (d.1 i) (kept.0 i) ∷ []),
      c.add-2.ensures.items ∙ (λ i. c.reserve-else-is_err.ensures.same.1 i ++ (d.2 i, kept.1 i) ∷ []),
    )
