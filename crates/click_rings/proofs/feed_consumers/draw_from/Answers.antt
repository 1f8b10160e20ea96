use Rattle.std.proofs.Common.{◌≡◌, ◌∙◌, ap, sym, slice_set, slice_index_or, true≢false}
use Rattle.click_rings.proofs.Draws.{drew_at, drew_away, has_at}
use Rattle.click_rings.proofs.feed_consumers.draw_from.Goals as goal

pub returns-in-Some-clause-consumers : goal.returns-in-Some-clause-consumers
returns-in-Some-clause-consumers c =
    let is = c.args.consumers.now in
    let x = slice_index_or is c.in-Some.place c.index-consumers-place.result in
    ap (λ y. slice_set is c.in-Some.place y) c.draw.ensures.inlet
    ∙ drew_at c.args.device.now c.draw.new.taken.items is c.in-Some.place x c.in-Some.ensures.some c.requires.apart (ap (λ y. slice_index_or is c.in-Some.place y) c.index-consumers-place.is)

pub returns-in-Some-clause-unknown : goal.returns-in-Some-clause-unknown
returns-in-Some-clause-unknown c = λ none. absurd (true≢false (sym (has_at c.args.device.now c.args.consumers.now c.in-Some.place c.in-Some.ensures.some) ∙ none))

pub returns-in-None-clause-consumers : goal.returns-in-None-clause-consumers
returns-in-None-clause-consumers c = sym (drew_away c.args.device.now c.args.taken.now.items c.args.consumers.now c.in-None.ensures.none)
