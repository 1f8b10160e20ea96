-- The results of calls inside the crate.
use Rattle.std.specs.Prelude.{◌≡◌, ◌⊎◌, ℕ, List, Option, Result, Ok, Err}
use Rattle.click_classes.specs.declared.fault.ArgFault.{ArgFault}
use Rattle.click_classes.specs.declared.fault.ArgFault.TheVariants as fault
use Rattle.click_classes.specs.Made.{source_bytes, FirstStandsFor}

-- the result is `said`, or out of memory
abbrev pub IsOrNoMemory : {A : Type 0} → Result A ArgFault → Result A ArgFault → Type 0
IsOrNoMemory said (Ok a) = said ≡ Ok a
IsOrNoMemory said (Err f) = (f ≡ fault.NoMemory) ⊎ (said ≡ Err f)

-- the bytes of a source, by its first argument if there is one
abbrev pub AreBytes : Option (List ℕ) → Result (List ℕ) ArgFault → Type 0
AreBytes argument r = (first : Option (Option (List ℕ))) × FirstStandsFor argument first × (r ≡ source_bytes first)
