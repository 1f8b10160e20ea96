-- The entry of a table that applies to an address (Click element reference, "StaticIPLookup").
use Rattle.std.specs.Prelude.{◌≡◌, ℕ, ◌≤◌, nat_lt, List, [], ◌∷◌, Bool, Option, None, Some, slice_get, if◌then◌else◌}
use Rattle.std.specs.Str.{bytes_eq}
use Rattle.click_classes.specs.declared.values.prefix.Prefix.{Prefix}
use Rattle.click_classes.specs.declared.values.entry.Entry.{Entry}
use Rattle.click_classes.specs.Values.{cleared}

-- the address has the prefix
abbrev pub Covers : Prefix → List ℕ → Type 0
Covers p a = cleared p.len a ≡ p.network

-- the entry is in the table, the address has its prefix, and no entry with a longer prefix covers
-- the address
pub record IsRoute (es : List Entry) (a : List ℕ) (e : Entry) : Type 0 where
  pub place : ℕ
  pub there : slice_get es place ≡ Some e
  pub covers : Covers e.prefix a
  pub longest : (k : ℕ) (f : Entry) → slice_get es k ≡ Some f → Covers f.prefix a → f.prefix.len ≤ e.prefix.len

-- the test for whether an address has a prefix
abbrev pub covers : Prefix → List ℕ → Bool
covers p a = bytes_eq (cleared p.len a) p.network

-- the entry with the longer prefix, or the first of two with the same length
abbrev pub longer : Entry → Option Entry → Entry
longer e None = e
longer e (Some f) = if nat_lt e.prefix.len f.prefix.len then f else e

-- the entry of an address
abbrev pub route : List Entry → List ℕ → Option Entry
route [] a = None
route (e ∷ es) a = if covers e.prefix a then Some (longer e (route es a)) else route es a
