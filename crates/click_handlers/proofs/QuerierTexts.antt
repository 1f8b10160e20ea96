-- Lemmas about the texts of an ARPQuerier's handlers.
use Rattle.std.proofs.Common.{◌≡◌, ℕ, ◌+◌, ◌<◌, List, [], ◌∷◌, ◌++◌, length, take, get_or, slice_get, Option, None, Some, flat_map, sym, ap, ◌∙◌, append_assoc}
use Rattle.std.proofs.lemmas.List.{take_more, flat_map_more}
use Rattle.std.proofs.lemmas.Option.{slice_get-get_or}
use Rattle.click_classes.specs.Neighbours.{Neighbour}
use Rattle.click_handlers.specs.Reads.{neighbour_line, neighbour_lines}

-- six parts, one appended after another
pub six_parts : (t t0 t1 t2 t3 t4 t5 p0 p1 p2 p3 p4 p5 : List ℕ) → t0 ≡ t ++ p0 → t1 ≡ t0 ++ p1 → t2 ≡ t1 ++ p2 → t3 ≡ t2 ++ p3 → t4 ≡ t3 ++ p4 → t5 ≡ t4 ++ p5
    → t5 ≡ t ++ (p0 ++ (p1 ++ (p2 ++ (p3 ++ (p4 ++ p5)))))
six_parts t t0 t1 t2 t3 t4 t5 p0 p1 p2 p3 p4 p5 e0 e1 e2 e3 e4 e5 =
    e5 ∙ ap (λ l. l ++ p5) e4 ∙ append_assoc t3 p4 p5
    ∙ ap (λ l. l ++ (p4 ++ p5)) e3 ∙ append_assoc t2 p3 (p4 ++ p5)
    ∙ ap (λ l. l ++ (p3 ++ (p4 ++ p5))) e2 ∙ append_assoc t1 p2 (p3 ++ (p4 ++ p5))
    ∙ ap (λ l. l ++ (p2 ++ (p3 ++ (p4 ++ p5)))) e1 ∙ append_assoc t0 p1 (p2 ++ (p3 ++ (p4 ++ p5)))
    ∙ ap (λ l. l ++ (p1 ++ (p2 ++ (p3 ++ (p4 ++ p5))))) e0 ∙ append_assoc t p0 (p1 ++ (p2 ++ (p3 ++ (p4 ++ p5))))

pub nobody : Neighbour
nobody = record { address = []; ether = None; waiting = None; used = 0 }

-- the line of the next neighbour
pub next_line : (ns : List Neighbour) (place : ℕ) (address : List ℕ) (ether : Option (List ℕ)) (front text more : List ℕ) → place < length ns
    → ((n : Neighbour) → slice_get ns place ≡ Some n → (address ≡ n.address) × (ether ≡ n.ether))
    → text ≡ front ++ neighbour_lines (take place ns) → more ≡ text ++ neighbour_line address ether → more ≡ front ++ neighbour_lines (take (place + 1) ns)
next_line ns place address ether front text more lt entry is e =
    let n : Neighbour = get_or ns place nobody in
    let same = entry n (slice_get-get_or ns place nobody lt) in
    let line : neighbour_line address ether ≡ neighbour_line n.address n.ether = ap (λ a. neighbour_line a ether) same.0 ∙ ap (neighbour_line n.address) same.1 in
    e ∙ ap (λ l. l ++ neighbour_line address ether) is ∙ ap (λ l. (front ++ neighbour_lines (take place ns)) ++ l) line
    ∙ flat_map_more (λ (m : Neighbour). neighbour_line m.address m.ether) front (take place ns) n
    ∙ ap (λ ms. front ++ neighbour_lines ms) (sym (take_more ns place nobody lt))
