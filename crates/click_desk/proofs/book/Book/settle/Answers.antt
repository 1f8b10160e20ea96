use Rattle.std.proofs.Common.{◌≡◌, List, map, true, true≢false, ap, ◌∙◌, sym, subst}
use Rattle.std.specs.Prelude.{slice_set}
use Rattle.crossbeam_queue.proofs.Lists.{at_index, set_again}
use Rattle.click_rings.specs.Feeds.{ConsumerState, name_of, has_feed, have_distinct_devices, IsPlace}
use Rattle.click_rings.proofs.Draws.{has_at}
use Rattle.click_desk.specs.declared.book.SettleFault.TheVariants.{NoFeed, NoMemory}
use Rattle.click_desk.specs.BookState.{BookState}
use Rattle.click_desk.specs.Polls.{polled, IsPolled, without}
use Rattle.click_desk.proofs.Settlements.{without_at, all_without, apart_without}
use Rattle.click_desk.proofs.book.Book.settle.Goals as goal

differ : NoMemory ≡ NoFeed → ⊥
differ e = cc

pub returns-clause-known : goal.returns-clause-known
returns-clause-known g c =
    let device = c.args.device.now in
    let is : List ConsumerState = c.self.inside.consumers.items in
    let k = c.in-Some.place in
    let at : IsPlace device is k = subst (λ (l : List ConsumerState). IsPlace device l k) c.as_slice.ensures.value c.in-Some.ensures.some in
    let has : has_feed device (map name_of c.args.self.now.consumers) ≡ true = ap (λ (b : BookState). has_feed device (map name_of b.consumers)) (sym c.self.view_is) ∙ has_at device is k at in
    has

pub invariant_of-self : goal.invariant_of-self
invariant_of-self g c =
    let device = c.args.device.now in
    let is : List ConsumerState = c.self.inside.consumers.items in
    let k = c.in-Some.place in
    let at : IsPlace device is k = subst (λ (l : List ConsumerState). IsPlace device l k) c.as_slice.ensures.value c.in-Some.ensures.some in
    let x : ConsumerState = c.index_mut.result.now in
    let is_x : c.drain.new.self ≡ x = (λ i. record { device = (c.drain.ensures.name i).device; ring = (c.drain.ensures.name i).ring; drawn = c.in-Err.ensures.err i }) in
    let same : slice_set is k c.drain.new.self ≡ is = ap (λ y. slice_set is k y) is_x ∙ set_again is k x (at_index is k x at.0 c.index_mut.ensures.value) in
    (subst (λ (l : List ConsumerState). IsPolled c.self.inside.entries.items l) (sym same) c.self.invariant.0, ap (λ (l : List ConsumerState). have_distinct_devices (map name_of l)) same ∙ c.self.invariant.1, c.self.invariant.2)

pub returns-in-Err-clause-refused : goal.returns-in-Err-clause-refused
returns-in-Err-clause-refused g c =
    let device = c.args.device.now in
    let is : List ConsumerState = c.self.inside.consumers.items in
    let k = c.in-Some.place in
    let at : IsPlace device is k = subst (λ (l : List ConsumerState). IsPlace device l k) c.as_slice.ensures.value c.in-Some.ensures.some in
    let x : ConsumerState = c.index_mut.result.now in
    let is_x : c.drain.new.self ≡ x = (λ i. record { device = (c.drain.ensures.name i).device; ring = (c.drain.ensures.name i).ring; drawn = c.in-Err.ensures.err i }) in
    let same : slice_set is k c.drain.new.self ≡ is = ap (λ y. slice_set is k y) is_x ∙ set_again is k x (at_index is k x at.0 c.index_mut.ensures.value) in
    let booklet : List ConsumerState → BookState = λ l. record { opening = c.self.inside.opening; keeps = c.self.inside.entries.keeps; entries = c.self.inside.entries.items; router = c.self.inside.router; seats = c.self.inside.seats.items; consumers = l; board = c.self.inside.published.board } in
    (c.drain.ensures.end, ap booklet same ∙ c.self.view_is)

pub returns-in-Err-clause-unknown : goal.returns-in-Err-clause-unknown
returns-in-Err-clause-unknown g c =
    let device = c.args.device.now in
    let is : List ConsumerState = c.self.inside.consumers.items in
    let k = c.in-Some.place in
    let at : IsPlace device is k = subst (λ (l : List ConsumerState). IsPlace device l k) c.as_slice.ensures.value c.in-Some.ensures.some in
    let has : has_feed device (map name_of c.args.self.now.consumers) ≡ true = ap (λ (b : BookState). has_feed device (map name_of b.consumers)) (sym c.self.view_is) ∙ has_at device is k at in
    ((λ e. absurd (differ e)), λ none. absurd (true≢false (sym has ∙ none)))

pub invariant_of-self-2 : goal.invariant_of-self-2
invariant_of-self-2 g c =
    let device = c.args.device.now in
    let is : List ConsumerState = c.self.inside.consumers.items in
    let k = c.in-Some.place in
    let at : IsPlace device is k = subst (λ (l : List ConsumerState). IsPlace device l k) c.as_slice.ensures.value c.in-Some.ensures.some in
    let gone : c.remove-settled.new.self.items ≡ without device is = c.remove-settled.ensures.items ∙ without_at device is k c.drain.new.self at c.self.invariant.1 in (
      subst (λ (l : List ConsumerState). IsPolled c.self.inside.entries.items l) (sym gone) (all_without (λ i. i.drawn ≡ polled c.self.inside.entries.items i.device) device is c.self.invariant.0),
      ap (λ (l : List ConsumerState). have_distinct_devices (map name_of l)) gone ∙ apart_without device is c.self.invariant.1,
      c.self.invariant.2,
    )

pub returns-clause-settled : goal.returns-clause-settled
returns-clause-settled g c =
    let device = c.args.device.now in
    let is : List ConsumerState = c.self.inside.consumers.items in
    let k = c.in-Some.place in
    let at : IsPlace device is k = subst (λ (l : List ConsumerState). IsPlace device l k) c.as_slice.ensures.value c.in-Some.ensures.some in
    let gone : c.remove-settled.new.self.items ≡ without device is = c.remove-settled.ensures.items ∙ without_at device is k c.drain.new.self at c.self.invariant.1 in
    let booklet : List ConsumerState → BookState = λ l. record { opening = c.self.inside.opening; keeps = c.self.inside.entries.keeps; entries = c.self.inside.entries.items; router = c.self.inside.router; seats = c.self.inside.seats.items; consumers = l; board = c.self.inside.published.board } in
    ap booklet gone ∙ ap (λ (b : BookState). record b { consumers = without device b.consumers }) c.self.view_is
