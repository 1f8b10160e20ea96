-- The packets that wait for the places that go are counted before these go.
use Rattle.std.proofs.Common.{rules, ◌≡◌, ℕ, ◌+◌, ◌&&◌, Bool, true, false, not, List, [], ◌∷◌, Option, Some, None, is_some, filter, cond, refl, ap, ◌∙◌, arith}
use Rattle.std.specs.List.{count_by}
use Rattle.std.proofs.lemmas.Fn.{filter_same}
use Rattle.std.proofs.lemmas.List.Sums.{sum_by-cons}
use Rattle.click_packet.specs.Packet.{Packet}
use Rattle.click_classes.specs.Neighbours.{Neighbour, waiting_in}
use Rattle.click_classes.specs.kept.KeepTests.{passes}
use Rattle.click_classes.proofs.neighbours.keep_places.Goals as goal

one_more : (stays : Bool) (n : Neighbour) (o : Option Packet) (rest : List Neighbour) (k : ℕ) → n.waiting ≡ o → k ≡ waiting_in rest
    → cond (is_some n.waiting && not stays) 1 0 + k ≡ waiting_in (cond (not stays) (n ∷ rest) rest)
one_more true n None rest k w e = rw w (omega (arith, e))
one_more true n (Some p) rest k w e = rw w (omega (arith, e))
one_more false n None rest k w e = rw w (omega (arith, e))
one_more false n (Some p) rest k w e = rw w (omega (arith, e))

counted : (test : Neighbour → Bool) (ns : List Neighbour) → count_by (λ n. is_some n.waiting && not (test n)) ns ≡ waiting_in (filter (λ n. not (test n)) ns)
counted test [] = refl
counted test (n ∷ ns) =
    sum_by-cons (λ m. cond (is_some m.waiting && not (test m)) 1 0) n ns
    ∙ one_more (test n) n n.waiting (filter (λ m. not (test m)) ns) (count_by (λ m. is_some m.waiting && not (test m)) ns) refl (counted test ns)

pub returns-clause-items : goal.returns-clause-items
returns-clause-items c = filter_same _ _ _ (λ x b f' k. search rules) _ _ c.retain.ensures.filtered

pub returns-clause-gone : goal.returns-clause-gone
returns-clause-gone c =
    c.waiting_without-gone.ensures
    ∙ ap (λ (ns : List Neighbour). count_by (λ n. is_some n.waiting && not (passes c.args.test n)) ns) c.as_slice.ensures.value
    ∙ counted (passes c.args.test) c.args.places.now.items
