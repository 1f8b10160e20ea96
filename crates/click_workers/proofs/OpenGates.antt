-- The open gate refuses no command.
use Rattle.std.proofs.Common.{ℕ, ◌+◌, Bool, false, Ok, length}
use Rattle.click_control.specs.Serving.{Course, WentThrough}
use Rattle.click_control.specs.declared.serving.Ended.TheVariants as ended
use Rattle.click_workers.specs.Gates.{Place, AsksGate, TellsGate}

module _ {G : Type 0} (gives : G → ℕ → ℕ → Bool → Type 0) (told : G → ℕ → ℕ → Type 0) (never : (gate : G) (who nth : ℕ) → gives gate who nth false → ⊥) where
  pub never-closed : (was is : Place G) (course : Course) → WentThrough (AsksGate gives) (TellsGate told) was is (Ok ended.GateClosed) course → ⊥
  never-closed was is course h = never h.0.gate h.0.who (length course.taken + 1) h.2.0
