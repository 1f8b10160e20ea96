use Rattle.std.proofs.Common.{inr, ℕ, Bor, List, option_map, arith, subst}
use Rattle.click_desk.specs.Openings.{IsViewFault}
use Rattle.click_rings.specs.Feeds.{FeedName}
use Rattle.click_workers.specs.Runs.{views_for}
use Rattle.click_workers.proofs.WholeRuns.{late-begun, true-begun, view-begun, few-views}
use Rattle.click_workers.proofs.runs.open_one.Goals as goal

pub fault_of-requires : goal.fault_of-requires
fault_of-requires g c =
    let name = option_map (λ (b : Bor (List ℕ)). b.now) c.args.opening.check in
    let text = c.args.opening.text.now in
    let f = c.in-Err.fault in
    let P : List FeedName → Type 0 = λ fs. IsViewFault 1 fs (views_for name) text f in
    late-begun 1 (views_for name) text f (omega arith) (omega arith) (few-views name) (inr (subst P c.new.ensures.items c.in-Err.ensures.fault))

pub returns-in-Err-clause-config : goal.returns-in-Err-clause-config
returns-in-Err-clause-config g c =
    let name = option_map (λ (b : Bor (List ℕ)). b.now) c.args.opening.check in
    let text = c.args.opening.text.now in
    let f = c.in-Err.fault in
    let P : List FeedName → Type 0 = λ fs. IsViewFault 1 fs (views_for name) text f in
    true-begun 1 (views_for name) text f c.fault_of.result c.fault_of.ensures.config (inr (subst P c.new.ensures.items c.in-Err.ensures.fault))

pub returns-in-Err-clause-view_asked : goal.returns-in-Err-clause-view_asked
returns-in-Err-clause-view_asked g c =
    let name = option_map (λ (b : Bor (List ℕ)). b.now) c.args.opening.check in
    let text = c.args.opening.text.now in
    let f = c.in-Err.fault in
    let P : List FeedName → Type 0 = λ fs. IsViewFault 1 fs (views_for name) text f in
    view-begun 1 name text f c.fault_of.result c.fault_of.ensures.view (inr (subst P c.new.ensures.items c.in-Err.ensures.fault))
