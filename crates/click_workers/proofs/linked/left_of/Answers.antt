use Rattle.std.proofs.Common.{◌≡◌, List, ap, subst, sym}
use Rattle.click_rings.specs.Feeds.{ConsumerState}
use Rattle.click_desk.specs.BookState.{BookState}
use Rattle.click_desk.specs.Polls.{without}
use Rattle.click_workers.specs.Linked.{HasRing}
use Rattle.click_workers.proofs.LinkFeeds.{others-kept}
use Rattle.click_workers.proofs.linked.left_of.Goals as goal

pub returns-in-Ok-clause-others : goal.returns-in-Ok-clause-others
returns-in-Ok-clause-others g c = λ other ring differ has.
    let old = c.args.book.now in
    let consumers : c.settle.new.self.consumers ≡ without c.args.device.now old.consumers = ap (λ (b : BookState). b.consumers) c.in-Ok.ensures.settled in
    subst (λ (l : List ConsumerState). HasRing l other ring) (sym consumers) (others-kept old.consumers c.args.device.now other ring differ has)
