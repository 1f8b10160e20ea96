-- The prepared form of a table: its entries with masks and words, the longest prefixes first.
use Rattle.std.specs.Prelude.{◌≡◌, ℕ, zero, suc, ◌<◌, ◌≤◌, ◌-◌, ◌^◌, ◌==◌, List, [], ◌∷◌, ◌++◌, length, Bool, Option, Some, None, bit_and, slice_index, if◌then◌else◌}
use Rattle.std.specs.List.{filter}
use Rattle.std.specs.Int.{w32, from_be_bytes}
use Rattle.click_classes.specs.declared.values.entry.Entry.{Entry}
use Rattle.click_classes.specs.declared.routes.Row.{Row}
use Rattle.click_classes.specs.Routes.{covers}

-- an address has four bytes
pub record IsAddress (a : List ℕ) : Type 0 where
  pub four : length a ≡ 4
  pub bytes : (i : ℕ) → slice_index a i < 256

-- an address as a number
abbrev pub word : List ℕ → ℕ
word a = from_be_bytes w32 a

abbrev pub IsShort : Entry → Type 0
IsShort e = e.prefix.len ≤ 32

abbrev pub has_len : ℕ → Entry → Bool
has_len n e = e.prefix.len == n

-- the entries whose prefixes are shorter than n, the longest first
unfoldable pub longest_first : ℕ → List Entry → List Entry
longest_first zero es = []
longest_first (suc n) es = filter (has_len n) es ++ longest_first n es

abbrev pub entry_of : Row → Entry
entry_of r = r.entry

-- the address has the bits of the row's network
abbrev pub fits : Row → ℕ → Bool
fits r w = bit_and w r.mask == r.network

-- the address has the bits of the row exactly if it has the prefix of the row's entry, and the mask
-- is of the first bits
pub record IsReady (r : Row) : Type 0 where
  pub fits_covers : (a : List ℕ) → IsAddress a → fits r (word a) ≡ covers r.entry.prefix a
  pub rest : ℕ
  pub rest_within : rest ≤ 32
  pub mask_is : r.mask ≡ 2 ^ 32 - 2 ^ rest

-- the entry of the first row whose bits the address has
abbrev pub first_found : List Row → ℕ → Option Entry
first_found [] w = None
first_found (r ∷ rs) w = if fits r w then Some r.entry else first_found rs w
