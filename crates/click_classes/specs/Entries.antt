-- The table of a StaticIPLookup (Click element reference, "StaticIPLookup").
use Rattle.std.specs.Prelude.{ℕ, ◌==◌, List, [], ◌∷◌, ◌++◌, length, Bool, ◌&&◌, slice_index_or, Option, Some, None, Result, Ok, Err, if◌then◌else◌}
use Rattle.std.specs.List.{list_any}
use Rattle.std.specs.Str.{bytes_eq}
use Rattle.click_classes.specs.declared.fault.ArgFault.{ArgFault}
use Rattle.click_classes.specs.declared.fault.ArgFault.TheVariants as fault
use Rattle.click_classes.specs.declared.values.prefix.Prefix.{Prefix}
use Rattle.click_classes.specs.declared.values.entry.Entry.{Entry}
use Rattle.click_classes.specs.Values.{number_in, address, prefix}
use Rattle.click_classes.specs.Steps.{◌>>=◌}

abbrev pub word : List (List ℕ) → ℕ → List ℕ
word words k = slice_index_or words k []

abbrev pub entry_of : Prefix → Option (List ℕ) → ℕ → Entry
entry_of p gateway n = record { prefix = p; gateway = gateway; output = n }

-- the entry that words spell: a prefix, optionally a gateway, and an output
unfoldable pub entry : List (List ℕ) → Result Entry ArgFault
entry words =
    if length words == 2 then (prefix (word words 0) >>= λ p. number_in 0 255 (word words 1) >>= λ n. Ok (entry_of p None n))
    else if length words == 3 then
    (prefix (word words 0) >>= λ p. address (word words 1) >>= λ g. number_in 0 255 (word words 2) >>= λ n. Ok (entry_of p (Some g) n))
    else Err fault.BadEntry

abbrev pub same_prefix : Prefix → Prefix → Bool
same_prefix p q = (p.len == q.len) && bytes_eq p.network q.network

-- an entry of the table has this prefix
abbrev pub has_prefix : List Entry → Prefix → Bool
has_prefix es p = list_any (λ e. same_prefix e.prefix p) es

-- the table with one more entry, whose prefix must be new
abbrev pub with_entry : List Entry → Entry → Result (List Entry) ArgFault
with_entry es e = if has_prefix es e.prefix then Err fault.BadEntry else Ok (es ++ e ∷ [])

-- the table with the entries that these words spell
abbrev pub table : List Entry → List (List (List ℕ)) → Result (List Entry) ArgFault
table es [] = Ok es
table es (words ∷ more) = entry words >>= λ e. with_entry es e >>= λ longer. table longer more
