-- Lemmas about the first packet of a task, and about the rest of the task after it.
use Rattle.std.proofs.Common.{◌≡◌, ℕ, zero, suc, ◌<◌, ◌-◌, ◌+◌, refl, ap, sym, ◌∙◌, ◌↔◌, Bool, true, false, IsTrue, Option, None, Some, IfSome, IsSome, MatchOption, nat_lt, if◌then◌else◌, arith}
use Rattle.std.proofs.lemmas.Bool.{false≢true}
use Rattle.std.proofs.lemmas.Bool.Decides.{nat_tests}
use Rattle.click_packet.specs.Packet.{Packet}
use Rattle.click_classes.specs.Acts.{Stored, burst_of, emission}
use Rattle.click_base.specs.declared.class.Class.{Class}
use Rattle.click_base.specs.declared.class.Class.TheVariants as class
use Rattle.click_engine.specs.RunState.{RunState, with_state}
use Rattle.click_engine.specs.Run.{push, pull}
use Rattle.click_engine.specs.Plant.{Plant, most_crossings, wiring, begin, end}
use Rattle.click_engine.specs.Rounds.{RoundResult, task_of, idle, bursts, unqueued, discarded, sourced, state_at}
use Rattle.click_engine.specs.kept.Tasks.{TakesOne, task_apart}
use Rattle.click_engine.proofs.OfRuns.RoundTasks.{burst-next, burst_by, bursts-zero, worked_by}

-- the first packet was pushed, and a source has m more to emit
abbrev started : ℕ → Plant → ℕ → RoundResult
started at v m = record { plant = (bursts m at v).plant; packets = 1 + (bursts m at v).packets }

positive : (n : ℕ) → nat_lt 0 (suc n) ≡ true
positive n = grind (arith, nat_tests)

-- the outcome of emitting the first packet of a source, which emits `most` packets at most
abbrev Tried : Plant → RunState → ℕ → ℕ → ℕ → Option Packet → Option Stored → Type 0
Tried v w at most burst last o =
    MatchOption o ((most ≡ 0) × (w ≡ begin most_crossings v)) (λ e. (most ≡ burst) × (w ≡ with_state (begin most_crossings v) at e.state) × (last ≡ Some e.packet))

abbrev IsPushed : Plant → RunState → RunState → ℕ → Option Packet → Type 0
IsPushed v w u at last = IfSome last (λ p. u ≡ push (wiring v) most_crossings w at 0 p)

one_given : (n at : ℕ) (v : Plant) (w u : RunState) (most : ℕ) (last : Option Packet) (o : Option Stored) → Tried v w at most (suc n) last o → 0 < most → IsPushed v w u at last
    → burst_by n at v o ≡ started at (end v u) (most - 1)
one_given n at v w u most last None f some pushed = absurd (omega (arith, f.0, some))
one_given n at v w u most last (Some e) f some pushed =
    let made : u ≡ push (wiring v) most_crossings w at 0 e.packet = rw f.2 at pushed in
    let same : end v u ≡ sourced v at e = ap (end v) (rw f.1 at made) in
    let less : n ≡ most - 1 = omega (arith, f.0) in
    ap (λ x. started at x n) (sym same) ∙ ap (started at (end v u)) less

source_some : (burst at : ℕ) (v : Plant) (w u : RunState) (most : ℕ) (last : Option Packet) → Tried v w at most burst last (if nat_lt 0 burst then emission (state_at v at) else None) → 0 < most
    → IsPushed v w u at last → bursts burst at v ≡ started at (end v u) (most - 1)
source_some zero at v w u most last f some pushed = absurd (omega (arith, f.0, some))
source_some (suc n) at v w u most last f some pushed =
    burst-next (suc n) n at v refl ∙ one_given n at v w u most last (emission (state_at v at)) (rw (positive n) at f) some pushed

source_has : (burst at : ℕ) (v : Plant) (w : RunState) (most : ℕ) (last : Option Packet) (o : Option Stored) → Tried v w at most burst last o → 0 < most → IsSome last
source_has burst at v w most last None f some = absurd (omega (arith, f.0, some))
source_has burst at v w most last (Some e) f some = rw f.2 refl

-- the result of a pull, and whether it was answered
abbrev Pulls : Plant → RunState → ℕ → Bool → Option Packet → Type 0
Pulls v w at taken last = (pull (wiring v) most_crossings (begin most_crossings v) at 0 ≡ record { run_state = w; packet = last }) × (IsTrue taken ↔ IsSome last)

unqueue_none : (v : Plant) (w : RunState) (at : ℕ) (taken : Bool) (last : Option Packet) → Pulls v w at taken last → taken ≡ false → unqueued v at ≡ idle (end v w)
unqueue_none v w at taken None f none = ap (worked_by v at) f.0
unqueue_none v w at taken (Some p) f none = absurd (false≢true (sym none ∙ f.1.1 refl))

unqueue_some : (v : Plant) (w u : RunState) (at : ℕ) (taken : Bool) (last : Option Packet) → Pulls v w at taken last → taken ≡ true → IsPushed v w u at last
    → unqueued v at ≡ record { plant = end v u; packets = 1 }
unqueue_some v w u at taken None f some pushed = absurd (false≢true (f.1.0 some))
unqueue_some v w u at taken (Some p) f some pushed = ap (worked_by v at) f.0 ∙ ap (λ x. record { plant = end v x; packets = 1 }) (sym pushed)

abbrev Takes : Class → Plant → RunState → ℕ → Bool → Option Packet → Type 0
Takes c v w at taken last = TakesOne (wiring v) (begin most_crossings v) w c at taken last

-- a task that yielded no packet
pub took_none : (c : Class) (v : Plant) (w : RunState) (at : ℕ) (taken : Bool) (last : Option Packet) → Takes c v w at taken last → taken ≡ false → task_of c v at ≡ task_apart c (end v w) at
took_none class.InfiniteSource v w at taken last f none = ap (λ x. bursts (burst_of (state_at (end v x) at)) at (end v x)) (sym (f.1 none))
took_none class.Unqueue v w at taken last f none = unqueue_none v w at taken last f none
took_none class.Discard v w at taken last f none = ap (λ x. discarded (end v x) at) (sym f.1)
took_none c v w at taken last f none = ap (λ x. idle (end v x)) (sym f.1)

-- a task whose single packet was pushed
pub took_one : (c : Class) (v : Plant) (w u : RunState) (at : ℕ) (taken : Bool) (last : Option Packet) → Takes c v w at taken last → taken ≡ true → IsPushed v w u at last
    → task_of c v at ≡ record { plant = end v u; packets = 1 }
took_one class.InfiniteSource v w u at taken last f some pushed =
    let over : started at (end v u) (1 - 1) ≡ record { plant = end v u; packets = 1 } = rw (bursts-zero (1 - 1) at (end v u) refl) refl in
    source_some (burst_of (state_at v at)) at v w u 1 last (f.0 some) (omega arith) pushed ∙ over
took_one class.Unqueue v w u at taken last f some pushed = unqueue_some v w u at taken last f some pushed
took_one c v w u at taken last f some pushed = absurd (false≢true (sym f.0 ∙ some))

-- the task has a packet to push
pub took_has : (c : Class) (v : Plant) (w : RunState) (at : ℕ) (taken : Bool) (last : Option Packet) → Takes c v w at taken last → taken ≡ true → IsSome last
took_has class.InfiniteSource v w at taken last f some =
    let b = burst_of (state_at v at) in source_has b at v w 1 last (if nat_lt 0 b then emission (state_at v at) else None) (f.0 some) (omega arith)
took_has class.Unqueue v w at taken last f some = f.1.0 some
took_has c v w at taken last f some = absurd (false≢true (sym f.0 ∙ some))
