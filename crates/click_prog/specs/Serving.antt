-- The run that a command line asks for, and its status.
use Rattle.std.specs.Prelude.{ℕ, List, Bool, true, false, not, ◌&&◌, ◌||◌, ◌==◌, Option, Some, None}
use Rattle.click_streams.specs.Peers.{Input, Output}
use Rattle.click_prog.specs.Linking.{LinkedTo}
use Rattle.click_prog.specs.Paging.{PagedRunTo}
use Rattle.click_prog.specs.Running.{Planned, AllRunTo, LiveRunTo}
use Rattle.click_prog.specs.declared.linking.OpenLinks.{OpenLinks}
use Rattle.click_cli.specs.declared.status.Status.{Status}

-- The run is one session on standard input and output. Nothing runs in parallel, no driver either,
-- and the router is not live.
abbrev pub is_alone : Bool → Planned → Bool
is_alone beside plan = not beside && (not plan.live && plan.workers == 0)

-- the number of sessions over TCP in each session slot: 2^64 - 1 for a live router, else 1
abbrev pub turns_of : Bool → ℕ
turns_of true = 18446744073709551615
turns_of false = 1

-- a run with sessions and drivers only, live or not
abbrev pub PlainTo : {D Rd Wr G : Type 0} → (D → ℕ → Option (Rd × Wr) → Type 0) → (Rd → Input) → (Wr → Output) → (G → ℕ → ℕ → Bool → Type 0) → (G → ℕ → ℕ → Type 0)
    → Bool → Planned → List ℕ → ℕ → D → Status → Type 0
PlainTo lets_in input output gives told true plan text turns door s =
    LiveRunTo lets_in input output gives told door plan.readonly text plan.sessions plan.workers turns s
PlainTo lets_in input output gives told false plan text turns door s =
    AllRunTo lets_in input output gives told door plan.readonly text plan.sessions plan.workers plan.rounds s

-- a run with links and with a page at this port, if there are any
abbrev pub ServesTo : {D Rd Wr G : Type 0} → (D → ℕ → Option (Rd × Wr) → Type 0) → (Rd → Input) → (Wr → Output) → (G → ℕ → ℕ → Bool → Type 0) → (G → ℕ → ℕ → Type 0)
    → Option OpenLinks → Option ℕ → Planned → List ℕ → ℕ → D → Status → Type 0
ServesTo lets_in input output gives told (Some links) page plan text turns door s =
    LinkedTo lets_in input output gives told page door plan text turns links.sockets.links.receivers.items links.sockets.sender.tried s
ServesTo lets_in input output gives told None (Some at) plan text turns door s = PagedRunTo lets_in input output gives told door plan text turns at s
ServesTo lets_in input output gives told None None plan text turns door s = PlainTo lets_in input output gives told plan.live plan text turns door s

-- a run of `ServesTo` at some door of this kind
abbrev pub ServesFrom : {D Rd Wr G : Type 0} → (D → ℕ → Option (Rd × Wr) → Type 0) → (Rd → Input) → (Wr → Output) → (G → ℕ → ℕ → Bool → Type 0) → (G → ℕ → ℕ → Type 0)
    → Option OpenLinks → Option ℕ → Planned → List ℕ → ℕ → Status → Type 0
ServesFrom {D} {Rd} {Wr} {G} lets_in input output gives told links page plan text turns s =
    (door : D) × ServesTo lets_in input output gives told links page plan text turns door s
