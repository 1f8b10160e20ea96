use Rattle.std.proofs.Common.{◌∙◌, ℕ, ◌<◌, Bor, List, arith, length, map, sym}
use Rattle.std.proofs.lemmas.Bool.{false≢true}
use Rattle.std.proofs.lemmas.List.{get_or-map, length-map}
use Rattle.click_prog.proofs.Linked.{apart-more, links-of, distinct-more, spelled-more, twice-of}
use Rattle.click_prog.proofs.link.links_of.Goals as goal

pub returns-then-is_linked-clause-refused : goal.returns-then-is_linked-clause-refused
returns-then-is_linked-clause-refused c =
    twice-of c.args.values.now c.loop-value.links.items c.loop-value.value-index _ c.in-Some.link c.loop-value-test.true c.loop-value.invariant.each c.in-Some.ensures
    (sym (rw c.as_slice.ensures.value at c.if-is_linked.ensures))

pub returns-then-is_circle-clause-refused : goal.returns-then-is_circle-clause-refused
returns-then-is_circle-clause-refused c =
    let values = c.args.values.now in let at = c.loop-value.value-index in let now = λ (v : Bor (List ℕ)). v.now in
    let inside : at < length (map now values) = omega (arith, length-map values now, c.loop-value-test.true) in
    ((at, inside, get_or-map now values at _ _ c.loop-value-test.true), (c.in-Some.link, c.in-Some.ensures, c.is_circle.ensures.0 c.if-is_circle.true))

pub loop-value-preserved : goal.loop-value-preserved
loop-value-preserved c =
    rw c.in_ok-push.ensures.items (record {
      each = spelled-more c.args.values.now c.loop-value.links.items c.loop-value.value-index _ c.in-Some.link c.loop-value-test.true c.loop-value.invariant.each c.in-Some.ensures;
      distinct = distinct-more c.loop-value.links.items c.in-Some.link c.loop-value.invariant.distinct (λ e. false≢true (sym c.if-is_circle.false ∙ c.is_circle.ensures.1 e));
      apart = apart-more c.loop-value.links.items c.in-Some.link c.loop-value.invariant.apart (sym (rw c.as_slice.ensures.value at c.if-is_linked.ensures));
    })

pub returns-clause-links : goal.returns-clause-links
returns-clause-links c =
    links-of c.args.values.now c.loop-value.links.items c.loop-value.value-index (omega arith) (omega arith) c.loop-value.invariant.each c.loop-value.invariant.distinct c.loop-value.invariant.apart
