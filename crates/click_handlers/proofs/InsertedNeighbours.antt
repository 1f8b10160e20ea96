-- The table of an ARPQuerier has the line of an address that was inserted.
use Rattle.std.proofs.Common.{◌≡◌, ℕ, zero, suc, ◌<◌, List, [], ◌∷◌, ◌++◌, length, get_or, slice_set, slice_get, Bool, true, false, nat_lt, if◌then◌else◌, Option, Some, None, Result, Ok, Err, flat_map, refl, sym, ap, ◌∙◌, subst, arith}
use Rattle.std.specs.Prelude.{codes, option_map}
use Rattle.std.specs.Str.{bytes_eq}
use Rattle.std.proofs.lemmas.Grind.{flat_map-append}
use Rattle.std.proofs.lemmas.List.Quantifiers.{position-Some}
use Rattle.std.proofs.lemmas.Option.{slice_get-get_or}
use Rattle.std.proofs.lemmas.Slice.Eq.{bytes_eq-Decides}
use Rattle.click_base.specs.Blanks.{trimmed}
use Rattle.click_base.specs.declared.class.Class.TheVariants as is
use Rattle.click_classes.specs.Neighbours.{Neighbour, most_neighbours, place_of}
use Rattle.click_classes.specs.NeighbourWrites.{can_be_known, inserted, inserted_at}
use Rattle.click_classes.specs.State.{class}
use Rattle.click_classes.specs.declared.neighbours.Querier.{Querier}
use Rattle.click_classes.specs.declared.state.State.{State}
use Rattle.click_classes.specs.declared.state.State.TheVariants as state
use Rattle.click_engine.specs.declared.run_state.Element.{Element}
use Rattle.click_handlers.specs.Reads.{neighbour_line, neighbour_lines, read_state, read_value}
use Rattle.click_handlers.specs.Writes.{written_neighbour, or_out_of_range, as_state, write_state, with_state, write_value}
use Rattle.click_handlers.specs.declared.fault.HandlerFault.{HandlerFault}
use Rattle.click_handlers.proofs.QuerierTexts.{nobody}

-- the line is a part of the text
record IsLineIn (line text : List ℕ) : Type 0 where
  pub front : List ℕ
  pub back : List ℕ
  pub is : text ≡ front ++ (line ++ back)

-- a list with another item
record IsParted (all : List Neighbour) (m : Neighbour) : Type 0 where
  pub front : List Neighbour
  pub back : List Neighbour
  pub is : all ≡ front ++ m ∷ back

parted : (ns : List Neighbour) (at : ℕ) (m : Neighbour) → at < length ns → IsParted (slice_set ns at m) m
parted [] at m lt = absurd (omega arith)
parted (n ∷ ns) zero m lt = record { front = []; back = ns; is = refl }
parted (n ∷ ns) (suc at) m lt = let p = parted ns at m (omega arith) in record { front = n ∷ p.front; back = p.back; is = ap (λ l. n ∷ l) p.is }

-- the line of an item
line-of : (all : List Neighbour) (m : Neighbour) → IsParted all m → IsLineIn (neighbour_line m.address m.ether) (neighbour_lines all)
line-of all m p = record {
  front = neighbour_lines p.front;
  back = neighbour_lines p.back;
  is = ap neighbour_lines p.is ∙ flat_map-append (λ (n : Neighbour). neighbour_line n.address n.ether) p.front (m ∷ p.back);
}

same_some : (p q : Querier) → ◌≡◌ {A = Option Querier} (Some p) (Some q) → p ≡ q
same_some p q e = cc

module _ (address ether : List ℕ) (q p : Querier) where
  abbrev Listed : Querier → Type 0
  Listed r = IsLineIn (neighbour_line address (Some ether)) (neighbour_lines r.table)

  new : Neighbour
  new = record { address = address; ether = Some ether; waiting = None; used = q.packets }

  grown : Querier
  grown = record q { table = q.table ++ new ∷ [] }

  known : Neighbour → Neighbour
  known n = record n { ether = Some ether; waiting = None; used = q.packets }

  listed : inserted address ether q ≡ Some p → Listed p
  unfolding new grown known
  listed e = allowed (can_be_known address ether) e where
    by_room : (b : Bool) → (if b then Some grown else None) ≡ Some p → Listed p
    by_room true k = subst Listed (same_some grown p k) (line-of (q.table ++ new ∷ []) new (record { front = q.table; back = []; is = refl }))
    by_room false k = absurd (let l = k in cc)

    go : (o : Option ℕ) → place_of q.table address ≡ o → inserted_at q address ether o ≡ Some p → Listed p
    go None there k = by_room (nat_lt (length q.table) most_neighbours) k
    go (Some at) there k =
        let found = position-Some (λ (n : Neighbour). bytes_eq n.address address) q.table at nobody there in
        let n : Neighbour = get_or q.table at nobody in
        let is : n.address ≡ address = (bytes_eq-Decides n.address address).0 found.1 in
        let made = rw (slice_get-get_or q.table at nobody found.0) at k in
        let all : slice_set q.table at (known n) ≡ p.table = ap (λ (r : Querier). r.table) (same_some _ p made) in
        subst (λ (ns : List Neighbour). IsLineIn (neighbour_line address (Some ether)) (neighbour_lines ns)) all
        (subst (λ (a : List ℕ). IsLineIn (neighbour_line a (Some ether)) (neighbour_lines (slice_set q.table at (known n)))) is
        (line-of (slice_set q.table at (known n)) (known n) (parted q.table at (known n) found.0)))

    allowed : (b : Bool) → (if b then inserted_at q address ether (place_of q.table address) else None) ≡ Some p → Listed p
    allowed true k = go (place_of q.table address) refl k
    allowed false k = absurd (let l = k in cc)

module _ (address ether any : List ℕ) where
  abbrev Reads : Result (List ℕ) HandlerFault → Type 0
  Reads value = (front : List ℕ) × (back : List ℕ) × (value ≡ Ok (front ++ (neighbour_line address (Some ether) ++ back)))

  as_read : (r : Querier) → IsLineIn (neighbour_line address (Some ether)) (neighbour_lines r.table) → Reads (Ok (neighbour_lines r.table))
  as_read r l = (l.front, l.back, ap Ok l.is)

  state-listed : (inputs outputs : ℕ) (s t : State) (text : List ℕ) → class s ≡ is.ARPQuerier → written_neighbour text ≡ Ok (address, ether)
      → write_state inputs outputs s (codes "insert") text ≡ Ok t → Reads (read_state inputs t (codes "table") any)
  state-listed inputs outputs (state.ARPQuerier q) t text e number made = go (inserted address ether q) refl (rw number at made) where
    ok_is : {x y : State} → ◌≡◌ {A = Result State HandlerFault} (Ok x) (Ok y) → x ≡ y
    ok_is k = cc

    go : (o : Option Querier) → inserted address ether q ≡ o → as_state state.ARPQuerier (or_out_of_range o) ≡ Ok t → Reads (read_state inputs t (codes "table") any)
    go (Some p) is k = subst (λ (u : State). Reads (read_state inputs u (codes "table") any)) (ok_is k) (as_read p (listed address ether q p is))
    go None is k = absurd (let l = k in cc)
  state-listed inputs outputs _ t text e number made = absurd (let k = e in cc)

  pub insert-listed : (e f : Element) (text : List ℕ) → class e.state ≡ is.ARPQuerier → written_neighbour (trimmed text) ≡ Ok (address, ether) → write_value (codes "insert") e text ≡ Ok f
      → Reads (read_value (codes "table") f any)
  insert-listed e f text c number done = go (write_state e.inputs e.outputs e.state (codes "insert") (trimmed text)) refl done where
    go : (r : Result State HandlerFault) → write_state e.inputs e.outputs e.state (codes "insert") (trimmed text) ≡ r → with_state e r ≡ Ok f → Reads (read_value (codes "table") f any)
    go (Ok t) made k = let same : record e { state = t } ≡ f = cc in subst (λ (g : Element). Reads (read_value (codes "table") g any)) same (state-listed e.inputs e.outputs e.state t (trimmed text) c number made)
    go (Err x) made k = absurd (let l = k in cc)
