-- The modes of the program, chosen by its first word.
use Rattle.std.specs.Prelude.{◌≡◌, ℕ, List, ◌∷◌, drop, String, codes, string_bytes}
use Rattle.std.specs.declared.alloc.Global.{Global}
use Rattle.click_prog.specs.declared.mode.Mode.{Mode}
use Rattle.click_prog.specs.declared.mode.Mode.TheVariants as mode

-- this is the word after the program's name
abbrev pub IsFirst : List ℕ → List (String Global) → Type 0
IsFirst word (name ∷ first ∷ words) = string_bytes first ≡ word
IsFirst word _ = ⊥

-- The mode is the one that the word after the program's name chooses, else that of sessions. The
-- words of its own command line begin with that word.
abbrev pub IsModeOf : List (String Global) → Mode → Type 0
IsModeOf words mode.Sessions = (IsFirst (codes "--calls") words → ⊥) × (IsFirst (codes "--pcap") words → ⊥)
IsModeOf words (mode.Calls own) = IsFirst (codes "--calls") words × (own.now ≡ drop 1 words)
IsModeOf words (mode.Pcap own) = IsFirst (codes "--pcap") words × (own.now ≡ drop 1 words)
