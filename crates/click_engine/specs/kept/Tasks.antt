-- The tasks as a plant stores them, and how they begin.
use Rattle.std.specs.Prelude.{◌≡◌, ◌↔◌, ℕ, Bool, true, false, IsTrue, IsSome, List, map, slice_get, option_map, Option, None, Some, MatchOption, nat_lt, if◌then◌else◌}
use Rattle.click_base.specs.declared.class.Class.{Class}
use Rattle.click_base.specs.declared.class.Class.TheVariants as class
use Rattle.click_packet.specs.Packet.{Packet}
use Rattle.click_classes.specs.Acts.{burst_of, emission}
use Rattle.click_ports.specs.declared.shape.Shape.{Shape}
use Rattle.click_engine.specs.RunState.{RunState, Wiring, element_at, with_state}
use Rattle.click_engine.specs.Run.{pull}
use Rattle.click_engine.specs.Plant.{Plant}
use Rattle.click_engine.specs.Rounds.{RoundResult, bursts, discarded, idle, state_at}
use Rattle.click_engine.specs.declared.tasks.Task.{Task}
use Rattle.click_engine.specs.declared.tasks.TaskKind.{TaskKind}
use Rattle.click_engine.specs.declared.tasks.TaskKind.TheVariants as kind

abbrev pub places_of : List Task → List ℕ
places_of tasks = map (λ (t : Task). t.at) tasks

-- the class of the elements with such a task
abbrev pub class_of_task : TaskKind → Class
class_of_task kind.InfiniteSource = class.InfiniteSource
class_of_task kind.Unqueue = class.Unqueue
class_of_task kind.Discard = class.Discard

-- the element of the task has the class of the task
abbrev pub IsTaskIn : List Shape → Task → Type 0
IsTaskIn shapes t = option_map (λ (s : Shape). s.class) (slice_get shapes t.at) ≡ Some (class_of_task t.kind)

-- the first packet of a source in its task, which emits `most` packets at most
abbrev pub FirstOfSource : RunState → RunState → ℕ → ℕ → Option Packet → Type 0
FirstOfSource w v at most last =
    let s = (element_at w at).state in
    MatchOption (if nat_lt 0 (burst_of s) then emission s else None) ((most ≡ 0) × (v ≡ w))
    (λ e. (most ≡ burst_of s) × (v ≡ with_state w at e.state) × (last ≡ Some e.packet))

-- the packet of a task that yields a single one, by the element's class: of a source whose burst is
-- one, or what an Unqueue pulls
abbrev pub TakesOne : Wiring → RunState → RunState → Class → ℕ → Bool → Option Packet → Type 0
TakesOne net w v class.InfiniteSource at taken last = (taken ≡ true → FirstOfSource w v at 1 last) × (taken ≡ false → v ≡ w)
TakesOne net w v class.Unqueue at taken last = (pull net w.left w at 0 ≡ record { run_state = v; packet = last }) × (IsTrue taken ↔ IsSome last)
TakesOne net w v c at taken last = (taken ≡ false) × (v ≡ w)

-- the rest of a task that yielded no packet by `TakesOne`
abbrev pub task_apart : Class → Plant → ℕ → RoundResult
task_apart class.InfiniteSource v at = bursts (burst_of (state_at v at)) at v
task_apart class.Discard v at = discarded v at
task_apart c v at = idle v
