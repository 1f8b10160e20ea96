-- How one session or driver uses the gate that all of them share.
use Rattle.std.specs.Prelude.{◌≡◌, ℕ, Bool}

-- A gate, with the number of the session or driver that uses it.
pub record Place (G : Type 0) : Type 0 where
  pub gate : G
  pub who : ℕ

abbrev pub place : {G : Type 0} → G → ℕ → Place G
place gate who = record { gate = gate; who = who }

-- The gate gives this answer to the session or driver before its nth command. The place is
-- unchanged.
abbrev pub AsksGate : {G : Type 0} → (G → ℕ → ℕ → Bool → Type 0) → Place G → ℕ → Bool → Place G → Type 0
AsksGate gives old nth answer new = gives old.gate old.who nth answer × (new ≡ old)

-- The gate is notified that the nth command is answered. The place is unchanged.
abbrev pub TellsGate : {G : Type 0} → (G → ℕ → ℕ → Type 0) → Place G → ℕ → Place G → Type 0
TellsGate told old nth new = told old.gate old.who nth × (new ≡ old)
