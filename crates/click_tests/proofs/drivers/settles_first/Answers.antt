use Rattle.std.proofs.Common.{◌≡◌, sym, ap, ◌∙◌, map, arith}
use Rattle.click_rings.specs.Feeds.{FeedName, name_of}
use Rattle.click_desk.specs.BookState.{BookState}
use Rattle.click_desk.specs.Polls.{without}
use Rattle.click_tests.proofs.Settled.{first-ring, first-settled}
use Rattle.click_tests.proofs.drivers.settles_first.Goals as goal

pub settle-requires : goal.settle-requires
settle-requires g c = λ k d below same.
    let n : FeedName = c.remove.result in
    let device : c.as_slice.result.now ≡ n.device = c.as_slice.ensures ∙ ap (λ (f : FeedName). f.device) c.device.view_is in
    let ring = sym (ap (λ (f : FeedName). f.ring) c.device.view_is) in
    first-ring c.args.drivers.now.items n c.args.book.now.consumers (omega (arith, c.requires.some, c.args.drivers.now.ok.0)) c.remove.ensures.value c.requires.names c.requires.apart k d below
    (same ∙ device) ∙ ring ∙ sym c.in_ok-end.ensures.end.0

pub returns-in-Ok-clause-names : goal.returns-in-Ok-clause-names
returns-in-Ok-clause-names g c =
    let n : FeedName = c.remove.result in
    let device : c.as_slice.result.now ≡ n.device = c.as_slice.ensures ∙ ap (λ (f : FeedName). f.device) c.device.view_is in
    let gone : c.settle.new.self.consumers ≡ without n.device c.args.book.now.consumers =
    ap (λ (b : BookState). b.consumers) c.in-Ok.ensures.settled ∙ ap (λ d. without d c.args.book.now.consumers) device in
    ap (map name_of) gone ∙ first-settled c.args.drivers.now.items n c.args.book.now.consumers (omega (arith, c.requires.some, c.args.drivers.now.ok.0)) c.remove.ensures.value c.requires.names
    ∙ sym c.remove.ensures.items
