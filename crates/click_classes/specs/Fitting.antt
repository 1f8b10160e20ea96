-- Elements whose states fit their numbers of ports.
use Rattle.std.specs.Prelude.{◌≡◌, ℕ, ◌+◌, ◌<◌, ◌≤◌, true}
use Rattle.click_classes.specs.Ports.{counts}
use Rattle.click_classes.specs.declared.packet_effects.PortRange.{PortRange}
use Rattle.click_classes.specs.declared.state.State.{State}
use Rattle.click_classes.specs.declared.state.State.TheVariants as state

-- the next port of a round-robin element exists
abbrev pub HasTurn : ℕ → ℕ → State → Type 0
HasTurn inputs outputs (state.RoundRobinSwitch next) = next < outputs
HasTurn inputs outputs (state.RoundRobinSched next) = next < inputs
HasTurn inputs outputs s = Unit {0}

-- an element in this state may have these numbers of ports
pub record FitsPorts (inputs outputs : ℕ) (s : State) : Type 0 where
  pub inputs_from : (counts s).inputs.0 ≤ inputs
  pub inputs_to : inputs ≤ (counts s).inputs.1
  pub outputs_from : (counts s).outputs.0 ≤ outputs
  pub outputs_to : outputs ≤ (counts s).outputs.1
  pub equal : (counts s).equal ≡ true → inputs ≡ outputs
  pub turn : HasTurn inputs outputs s

-- all ports of the range exist
abbrev pub AreThere : ℕ → PortRange → Type 0
AreThere ports r = 0 < r.count → r.first + r.count ≤ ports

-- the first port of the range exists, and no port is asked twice
abbrev pub AreAsked : ℕ → PortRange → Type 0
AreAsked ports r = 0 < r.count → (r.first < ports) × (r.count ≤ ports)
