-- Lemmas about tables of routes.
use Rattle.std.proofs.Common.{◌≡◌, ◌<◌, ◌+◌, ◌==◌, ◌∷◌, ◌++◌, ℕ, List, [], None, length, get_or, max, drop, arith, Ordering, BTreeSet, true}
use Rattle.std.proofs.lemmas.List.{at_drop_more}
use Rattle.std.proofs.lemmas.Bool.Decides.{nat_tests}
use Rattle.std.proofs.lemmas.List.Folds.{list_any-append}
use Rattle.std.proofs.lemmas.Map.Text.{is_eq-slice_cmp}
use Rattle.std.specs.BTreeSet.{contains, Updates}
use Rattle.std.specs.Cmp.{tied_then}
use Rattle.std.specs.Cmp.Lexicographic.{slice_cmp}
use Rattle.std.specs.Ordering.{is_eq, nat_cmp, ordering_then}
use Rattle.click_classes.specs.declared.routes.Row.{Row}
use Rattle.click_classes.specs.declared.values.prefix.Prefix.{Prefix}
use Rattle.click_classes.specs.Entries.{same_prefix, has_prefix}
use Rattle.click_classes.specs.declared.values.entry.Entry.{Entry}
use Rattle.click_classes.specs.Ports.{outputs_for}

-- the value of a read after the end
abbrev pub blank : Entry
blank = record { prefix = record { network = []; len = 0 }; gateway = None; output = 0 }

abbrev pub blank_row : Row
blank_row = record { mask = 0; network = 0; entry = blank }

-- one more entry
pub outputs_more : (es : List Entry) (d : Entry) (i most new all : ℕ) → i < length es → new ≡ max most ((get_or es i d).output + 1) → max most (outputs_for (drop i es)) ≡ all → max new (outputs_for (drop (i + 1) es)) ≡ all
outputs_more es d i most new all h e f =
    let next : outputs_for (drop i es) ≡ max ((get_or es i d).output + 1) (outputs_for (drop (i + 1) es)) = at_drop_more outputs_for es i d h in
    omega arith

-- prefixes are compared by network, and then by length
abbrev pub prefix_cmp : Prefix → Prefix → Ordering
prefix_cmp p q = ordering_then (slice_cmp nat_cmp p.network q.network) (nat_cmp p.len q.len)

-- numbers compare as equal exactly if they are equal
is_eq-nat_cmp : (m n : ℕ) → is_eq (nat_cmp m n) ≡ (m == n)
is_eq-nat_cmp m n = grind (arith, nat_tests)

-- prefixes compare as equal exactly if they are the same
is_eq-prefix_cmp : (p q : Prefix) → is_eq (prefix_cmp p q) ≡ same_prefix p q
is_eq-prefix_cmp p q =
    let networks = is_eq-slice_cmp p.network q.network in
    let lens = is_eq-nat_cmp p.len q.len in
    let both = tied_then (slice_cmp nat_cmp p.network q.network) (nat_cmp p.len q.len) in
    grind (arith, networks, lens, both)

-- the set of the entries' prefixes, with one more
pub seen_more : (s n : BTreeSet Prefix) (es : List Entry) (e : Entry) → ((q : Prefix) → contains prefix_cmp s q ≡ has_prefix es q) → Updates prefix_cmp s n e.prefix true → (q : Prefix) → contains prefix_cmp n q ≡ has_prefix (es ++ e ∷ []) q
seen_more s n es e h u q =
    let now = u.0 q in
    let old = h q in
    let same = is_eq-prefix_cmp e.prefix q in
    let longer = list_any-append (λ (e : Entry). same_prefix e.prefix q) es (e ∷ []) in
    grind (arith, now, old, same, longer)
