-- The addresses, as numbers, cut into ranges in which each has the same entry.
use Rattle.std.specs.Prelude.{◌≡◌, ℕ, ◌+◌, ◌<◌, ◌≤◌, ◌^◌, List, length, slice_index_or}
use Rattle.std.specs.List.Sorted.{IsNonDecreasingBy}
use Rattle.click_classes.specs.declared.values.entry.Entry.{Entry}
use Rattle.click_classes.specs.declared.routes.Row.{Row}
use Rattle.click_classes.specs.declared.routes.AddressRange.{AddressRange}
use Rattle.click_classes.specs.Routes.{route}
use Rattle.click_classes.specs.kept.Rows.{IsAddress, word, first_found}

abbrev pub start_of : AddressRange → ℕ
start_of g = g.start

-- the ranges ascend from address 0
pub record AreRanges (gs : List AddressRange) : Type 0 where
  pub first : (d : AddressRange) → start_of (slice_index_or gs 0 d) ≡ 0
  pub ascending : IsNonDecreasingBy start_of gs

-- the word is in range i: at or after its start, and before the start of the next
pub record IsIn (gs : List AddressRange) (i w : ℕ) (d : AddressRange) : Type 0 where
  pub there : i < length gs
  pub from : start_of (slice_index_or gs i d) ≤ w
  pub until : i + 1 < length gs → w < start_of (slice_index_or gs (i + 1) d)

-- each word below the end has the entry of its range
pub record HaveEntries (rs : List Row) (end : ℕ) (gs : List AddressRange) : Type 0 where
  pub entry_is : (i w : ℕ) (d : AddressRange) → IsIn gs i w d → w < end → (slice_index_or gs i d).entry ≡ first_found rs w

-- the rows and the ranges, if there are any, have the route of each address
pub record AreSound (es : List Entry) (rs : List Row) (gs : List AddressRange) : Type 0 where
  pub rows : (a : List ℕ) → IsAddress a → first_found rs (word a) ≡ route es a
  pub ranges : ◌<◌ 0 (length gs) → AreRanges gs
  pub entries : ◌<◌ 0 (length gs) → HaveEntries rs (2 ^ 32) gs
