-- The numbers of ports that an element may have.
use Rattle.std.specs.Prelude.{◌≡◌, ℕ, ◌≤◌, true}
use Rattle.click_classes.specs.declared.ports.Counts.{Counts}

pub record HasUse (c : Counts) : Type 0 where
  pub inputs : ℕ
  pub outputs : ℕ
  pub least_in : c.inputs.0 ≤ inputs
  pub most_in : inputs ≤ c.inputs.1
  pub least_out : c.outputs.0 ≤ outputs
  pub most_out : outputs ≤ c.outputs.1
  pub equal : c.equal ≡ true → inputs ≡ outputs
