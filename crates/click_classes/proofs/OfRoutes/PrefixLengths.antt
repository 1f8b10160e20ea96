-- The prefixes of a table have lengths of at most 32.
use Rattle.std.proofs.Common.{◌≡◌, ◌==◌, ℕ, ◌+◌, ◌≤◌, List, [], ◌∷◌, length, Option, Some, None, Result, Ok, Err, take, drop, refl, sym, arith, inl, inr}
use Rattle.std.specs.Prelude.{nat_le, position}
use Rattle.std.specs.List.{All}
use Rattle.std.proofs.lemmas.Bool.{cases_Bool}
use Rattle.std.proofs.lemmas.Bool.Decides.{nat_tests}
use Rattle.std.proofs.lemmas.List.Elements.{All-nil, All-push}
use Rattle.click_base.specs.Numbers.{digit, at_most, decimal_in, is_run, spelled}
use Rattle.click_classes.specs.declared.fault.ArgFault.{ArgFault}
use Rattle.click_classes.specs.declared.values.entry.Entry.{Entry}
use Rattle.click_classes.specs.declared.values.prefix.Prefix.{Prefix}
use Rattle.click_classes.specs.Entries.{word, entry_of, entry, with_entry, table}
use Rattle.click_classes.specs.Values.{address, cleared, number_in, prefix, prefix_at, prefix_of, whole}
use Rattle.click_classes.specs.kept.Rows.{IsShort}
use Rattle.click_classes.proofs.OfPorts.PortUses.{both_ok, with_entry_is}

most_bound : (high n m : ℕ) → at_most high n ≡ Some m → m ≤ high
most_bound high n m e = elim (cases_Bool (nat_le n high)) [
  | inl t ↦ let f = rw t at e in let same : n ≡ m = cc in grind (arith, nat_tests)
  | inr t ↦ let f = rw t at e in cc
]

decimal_bound : (high : ℕ) (bytes : List ℕ) (n : ℕ) → decimal_in high bytes ≡ Some n → n ≤ high
unfolding decimal_in
decimal_bound high bytes n e = elim (cases_Bool (is_run digit bytes)) [
  | inl t ↦ let f = rw t at e in most_bound high (spelled 10 0 bytes) n f
  | inr t ↦ let f = rw t at e in cc
]

whole_short : (r : Result (List ℕ) ArgFault) (p : Prefix) → whole r ≡ Ok p → p.len ≤ 32
whole_short (Ok a) p e =
    let alone : Prefix = record { network = a; len = 32 } in
    let same : alone ≡ p = cc in
    rw (← same) (omega arith)
whole_short (Err f) p e = cc

part_short : (r : Result (List ℕ) ArgFault) (l : Option ℕ) (p : Prefix) → ((n : ℕ) → l ≡ Some n → n ≤ 32) → prefix_of r l ≡ Ok p → p.len ≤ 32
part_short (Ok a) (Some len) p h e =
    let cut : Prefix = record { network = cleared len a; len = len } in
    let same : cut ≡ p = cc in
    rw (← same) (h len refl)
part_short (Ok a) None p h e = cc
part_short (Err f) l p h e = cc

prefix_at_short : (bytes : List ℕ) (at : Option ℕ) (p : Prefix) → prefix_at bytes at ≡ Ok p → p.len ≤ 32
prefix_at_short bytes None p e = whole_short (address bytes) p e
prefix_at_short bytes (Some at) p e = part_short (address (take at bytes)) (decimal_in 32 (drop (at + 1) bytes)) p (λ n i. decimal_bound 32 (drop (at + 1) bytes) n i) e

prefix_short : (bytes : List ℕ) (p : Prefix) → prefix bytes ≡ Ok p → p.len ≤ 32
unfolding prefix
prefix_short bytes p e = prefix_at_short bytes (position (λ b. b == 47) bytes) p e

entry_short : (words : List (List ℕ)) (e : Entry) → Ok e ≡ entry words → IsShort e
unfolding entry
entry_short words e h = elim (cases_Bool (length words == 2)) [
  | inl t ↦
      let f = rw t at h in
      let p = both_ok (prefix (word words 0)) _ e f in
      let n = both_ok (number_in 0 255 (word words 1)) _ e p.2 in
      let same : entry_of p.0 None n.0 ≡ e = cc in
      rw (← same) (prefix_short (word words 0) p.0 p.1)
  | inr t ↦ elim (cases_Bool (length words == 3)) [
    | inl u ↦
        let f = rw (t, u) at h in
        let p = both_ok (prefix (word words 0)) _ e f in
        let g = both_ok (address (word words 1)) _ e p.2 in
        let n = both_ok (number_in 0 255 (word words 2)) _ e g.2 in
        let same : entry_of p.0 (Some g.0) n.0 ≡ e = cc in
        rw (← same) (prefix_short (word words 0) p.0 p.1)
    | inr u ↦ let f = rw (t, u) at h in cc
  ]
]

more_short : (es : List Entry) (args : List (List (List ℕ))) (all : List Entry) → All IsShort es → Ok all ≡ table es args → All IsShort all
more_short es [] all d e = let f : es ≡ all = cc in rw (← f) d
more_short es (words ∷ args) all d e =
    let first = both_ok (entry words) _ all e in
    let next = both_ok (with_entry es first.0) _ all first.2 in
    let longer = with_entry_is es first.0 next.0 next.1 in
    let more : All IsShort next.0 = rw longer.1 (All-push IsShort es first.0 d (entry_short words first.0 (sym first.1))) in
    more_short next.0 args all more next.2

pub table_short : (args : List (List (List ℕ))) (all : List Entry) → table [] args ≡ Ok all → All IsShort all
table_short args all e = more_short [] args all (All-nil IsShort) (sym e)
