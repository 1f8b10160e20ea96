use Rattle.std.proofs.Common.{ℕ, Bool, List, Option, None, Some, inr, refl}
use Rattle.click_cli.specs.declared.status.Status.TheVariants as status
use Rattle.click_links.specs.Ends.{Attempt, Hearing}
use Rattle.click_links.specs.declared.run.Receiver.{Receiver}
use Rattle.click_streams.specs.Peers.{Input, Output}
use Rattle.click_prog.specs.Linking.{LinkedTo}
use Rattle.click_prog.specs.Running.{Planned}
use Rattle.click_prog.proofs.linking.serve_linked.Goals as goal

-- there may be no memory to begin a run, with a page or without
no-memory : {D Rd Wr G : Type 0} (lets_in : D → ℕ → Option (Rd × Wr) → Type 0) (input : Rd → Input) (output : Wr → Output) (gives : G → ℕ → ℕ → Bool → Type 0) (told : G → ℕ → ℕ → Type 0)
    (page : Option ℕ) (door : D) (plan : Planned) (text : List ℕ) (turns : ℕ) (receivers : List (Receiver Hearing)) (before : List Attempt)
    → LinkedTo lets_in input output gives told page door plan text turns receivers before status.NoMemory
no-memory lets_in input output gives told None door plan text turns receivers before = inr (inr refl)
no-memory lets_in input output gives told (Some at) door plan text turns receivers before = inr (inr refl)

pub returns-in_default : goal.returns-in_default
returns-in_default g c = no-memory _ _ _ _ _ _ _ _ _ _ _ _
