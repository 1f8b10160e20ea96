-- Lemmas about rows and entries that are read one by one.
use Rattle.std.proofs.Common.{◌≡◌, ℕ, suc, ◌+◌, ◌<◌, List, [], ◌∷◌, ◌++◌, length, get_or, drop, true, false, Some, sym, ◌∙◌, append_assoc}
use Rattle.std.specs.Prelude.{map}
use Rattle.std.specs.List.{filter}
use Rattle.std.proofs.lemmas.List.{append-nil, at_drop_more, map-append}
use Rattle.click_classes.specs.declared.values.entry.Entry.{Entry}
use Rattle.click_classes.specs.declared.routes.Row.{Row}
use Rattle.click_classes.specs.kept.Rows.{has_len, longest_first, entry_of, fits, first_found}

module _ (rs : List Row) (i w : ℕ) (d : Row) (within : i < length rs) where
  pub found_here : fits (get_or rs i d) w ≡ true → first_found (drop i rs) w ≡ Some (entry_of (get_or rs i d))
  found_here t =
      let next : first_found (drop i rs) w ≡ first_found (get_or rs i d ∷ drop (i + 1) rs) w = at_drop_more (λ l. first_found l w) rs i d within in
      rw t at next

  pub found_later : fits (get_or rs i d) w ≡ false → first_found (drop i rs) w ≡ first_found (drop (i + 1) rs) w
  found_later t =
      let next : first_found (drop i rs) w ≡ first_found (get_or rs i d ∷ drop (i + 1) rs) w = at_drop_more (λ l. first_found l w) rs i d within in
      rw t at next

module _ (rs : List Row) (es : List Entry) (i n : ℕ) (d : Entry) (within : i < length es) where
  -- an entry of this length gets a row
  pub row_more : (r : Row) → entry_of r ≡ get_or es i d → has_len n (get_or es i d) ≡ true
      → map entry_of (rs ++ r ∷ []) ++ filter (has_len n) (drop (i + 1) es) ≡ map entry_of rs ++ filter (has_len n) (drop i es)
  row_more r same t =
      let next : filter (has_len n) (drop i es) ≡ filter (has_len n) (get_or es i d ∷ drop (i + 1) es) = at_drop_more (λ l. filter (has_len n) l) es i d within in
      let taken : filter (has_len n) (drop i es) ≡ get_or es i d ∷ filter (has_len n) (drop (i + 1) es) = rw t at next in
      rw (map-append entry_of rs (r ∷ []), same, taken) (append_assoc (map entry_of rs) (get_or es i d ∷ []) (filter (has_len n) (drop (i + 1) es)))

  pub row_skipped : has_len n (get_or es i d) ≡ false → filter (has_len n) (drop i es) ≡ filter (has_len n) (drop (i + 1) es)
  row_skipped t =
      let next : filter (has_len n) (drop i es) ≡ filter (has_len n) (get_or es i d ∷ drop (i + 1) es) = at_drop_more (λ l. filter (has_len n) l) es i d within in
      rw t at next

-- the entries of one more length
pub length_more : (rs more : List Row) (es all : List Entry) (n m : ℕ) → m ≡ suc n → map entry_of more ≡ map entry_of rs ++ filter (has_len n) es
    → map entry_of rs ++ longest_first m es ≡ all → map entry_of more ++ longest_first n es ≡ all
unfolding longest_first
length_more rs more es all n m next taken so_far =
    let before : map entry_of rs ++ longest_first (suc n) es ≡ all = rw next at so_far in
    rw taken (append_assoc (map entry_of rs) (filter (has_len n) es) (longest_first n es) ∙ before)

pub length_end : (rs : List Row) (es all : List Entry) (n : ℕ) → n ≡ 0 → map entry_of rs ++ longest_first n es ≡ all → map entry_of rs ≡ all
unfolding longest_first
length_end rs es all n e so_far =
    let end : map entry_of rs ++ longest_first 0 es ≡ all = rw e at so_far in
    sym (append-nil (map entry_of rs)) ∙ end
