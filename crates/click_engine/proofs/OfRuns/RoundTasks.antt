-- Lemmas about one task of a round.
use Rattle.std.proofs.Common.{◌≡◌, ℕ, zero, suc, List, [], ◌∷◌, length, drop, get_or, ◌<◌, ◌+◌, ◌≤◌, min, refl, ap, sym, ◌∙◌, Bool, true, false, Option, None, Some, MatchOption, arith}
use Rattle.std.proofs.Math.Seq.{drop-cons}
use Rattle.std.proofs.lemmas.Bool.{false≢true}
use Rattle.std.proofs.lemmas.Bool.Decides.{nat_tests}
use Rattle.click_packet.specs.Packet.{Packet}
use Rattle.click_engine.specs.Run.{push, Pulled}
use Rattle.click_engine.specs.Plant.{most_crossings}
use Rattle.click_engine.specs.Plant.{Plant, wiring, end}
use Rattle.std.specs.List.{slice_get}
use Rattle.click_classes.specs.Acts.{Stored, burst_of, emission}
use Rattle.click_base.specs.declared.class.Class.{Class}
use Rattle.click_base.specs.declared.class.Class.TheVariants as class
use Rattle.click_ports.specs.declared.shape.Shape.{Shape}
use Rattle.std.specs.Prelude.{option_map, is_some}
use Rattle.std.proofs.lemmas.List.{get_or-map}
use Rattle.click_engine.specs.kept.Tasks.{class_of_task, places_of, IsTaskIn}
use Rattle.click_engine.specs.declared.tasks.Task.{Task}
use Rattle.click_engine.specs.Rounds.{tasks, task, task_of, idle, asks, bursts, sourced, state_at, RoundResult}

pub tasks-none : (places : List ℕ) (v : Plant) → places ≡ [] → tasks places v ≡ idle v
unfolding tasks
tasks-none places v e = rw e refl

pub tasks-next : (places more : List ℕ) (at : ℕ) (v : Plant) → places ≡ at ∷ more → tasks places v ≡ record {
  plant = (tasks more (task v at).plant).plant;
  packets = (task v at).packets + (tasks more (task v at).plant).packets;
}
unfolding tasks
tasks-next places more at v e = rw e refl

abbrev pub worked_by : Plant → ℕ → Pulled → RoundResult
worked_by v at r = elim r.packet [
  | None ↦ record { plant = end v r.run_state; packets = 0 }
  | Some p ↦ record { plant = end v (push (wiring v) most_crossings r.run_state at 0 p); packets = 1 }
]

-- the next packet of a source and a burst of m packets after it
abbrev pub burst_by : ℕ → ℕ → Plant → Option Stored → RoundResult
burst_by m at v o = elim o [
  | None ↦ idle v
  | Some e ↦ record { plant = (bursts m at (sourced v at e)).plant; packets = 1 + (bursts m at (sourced v at e)).packets }
]

abbrev Emitted : ℕ → Plant → Plant → Bool → Option Stored → Type 0
Emitted at v u b o = MatchOption o ((b ≡ false) × (u ≡ v)) (λ e. (b ≡ true) × (u ≡ sourced v at e))

pub burst-next : (n m at : ℕ) (v : Plant) → n ≡ suc m → bursts n at v ≡ burst_by m at v (emission (state_at v at))
unfolding bursts
burst-next n m at v h = rw h refl

given_one : (m at : ℕ) (v u : Plant) (b : Bool) (o : Option Stored) → Emitted at v u b o → b ≡ true
    → burst_by m at v o ≡ record { plant = (bursts m at u).plant; packets = 1 + (bursts m at u).packets }
given_one m at v u b None f gave = absurd (false≢true (sym f.0 ∙ gave))
given_one m at v u b (Some e) f gave = rw f.1 refl

given_none : (m at : ℕ) (v u : Plant) (b : Bool) (o : Option Stored) → Emitted at v u b o → b ≡ false → burst_by m at v o ≡ idle u
given_none m at v u b None f gave = rw f.1 refl
given_none m at v u b (Some e) f gave = absurd (false≢true (sym gave ∙ f.0))

-- a source emitted one more packet, or none
-- a packet of a source leaves the net unchanged
pub burst_net : (at : ℕ) (v w : Plant) (b : Bool) (o : Option Stored) → MatchOption o ((b ≡ false) × (w ≡ v)) (λ e. (b ≡ true) × (w ≡ sourced v at e)) → w.net ≡ v.net
burst_net at v w b None h = ap (λ (p : Plant). p.net) h.1
burst_net at v w b (Some e) h = ap (λ (p : Plant). p.net) h.1

pub burst_more : (n m at : ℕ) (v u : Plant) (b : Bool) → n ≡ suc m → Emitted at v u b (emission (state_at v at)) → b ≡ true
    → bursts n at v ≡ record { plant = (bursts m at u).plant; packets = 1 + (bursts m at u).packets }
burst_more n m at v u b h made gave = burst-next n m at v h ∙ given_one m at v u b (emission (state_at v at)) made gave

pub burst_over : (n m at : ℕ) (v u : Plant) (b : Bool) → n ≡ suc m → Emitted at v u b (emission (state_at v at)) → b ≡ false → bursts n at v ≡ idle u
burst_over n m at v u b h made gave = burst-next n m at v h ∙ given_none m at v u b (emission (state_at v at)) made gave

pub bursts-zero : (n at : ℕ) (v : Plant) → n ≡ 0 → bursts n at v ≡ idle v
unfolding bursts
bursts-zero n at v e = rw e refl

-- a sum that is cut off at a bound is the same in any order of adding
pub topped : (a b top : ℕ) → min (min a top + b) top ≡ min (a + b) top
topped a b top = grind (arith, nat_tests)

pub topped_all : (a b top : ℕ) → a ≤ top → {n : ℕ} → b ≡ 0 → min (a + b) top ≡ n → a ≡ n
topped_all a b top l e h = grind (arith, nat_tests)

-- a task does not change the list of tasks
burst-keeps : (n at : ℕ) (v : Plant) → (bursts n at v).plant.tasks ≡ v.tasks
unfolding bursts
burst-keeps zero at v = refl
burst-keeps (suc n) at v = go (burst-keeps n at) (emission (state_at v at))
  where
    go : ((u : Plant) → (bursts n at u).plant.tasks ≡ u.tasks) → (o : Option Stored) → (burst_by n at v o).plant.tasks ≡ v.tasks
    go h None = refl
    go h (Some e) = h (sourced v at e)

unqueued-keeps : (v : Plant) (at : ℕ) (r : Pulled) → (worked_by v at r).plant.tasks ≡ v.tasks
unqueued-keeps v at r = elim (r.packet) as (λ (o : Option Packet). (worked_by v at (record { run_state = r.run_state; packet = o })).plant.tasks ≡ v.tasks) [ None ↦ refl | Some p ↦ refl ]

abbrev gone_by : Plant → Pulled → RoundResult
gone_by v r = elim r.packet [ None ↦ record { plant = end v r.run_state; packets = 0 } | Some p ↦ record { plant = end v r.run_state; packets = 1 } ]

discarded-keeps : (v : Plant) (r : Pulled) → (gone_by v r).plant.tasks ≡ v.tasks
discarded-keeps v r = elim (r.packet) as (λ (o : Option Packet). (gone_by v (record { run_state = r.run_state; packet = o })).plant.tasks ≡ v.tasks) [ None ↦ refl | Some p ↦ refl ]

abbrev by_shape : Plant → ℕ → Option Shape → RoundResult
by_shape v at o = elim o [ None ↦ idle v | Some shape ↦ task_of shape.class v at ]

class-keeps : (c : Class) (v : Plant) (at : ℕ) → (task_of c v at).plant.tasks ≡ v.tasks
class-keeps class.InfiniteSource v at = burst-keeps (burst_of (state_at v at)) at v
class-keeps class.Unqueue v at = unqueued-keeps v at (asks v at)
class-keeps class.Discard v at = discarded-keeps v (asks v at)
class-keeps c v at = refl

pub task-keeps : (v : Plant) (at : ℕ) → (task v at).plant.tasks ≡ v.tasks
task-keeps v at = go (slice_get v.net.shapes at)
  where
    go : (o : Option Shape) → (by_shape v at o).plant.tasks ≡ v.tasks
    go None = refl
    go (Some s) = class-keeps s.class v at

pub drop_next : (xs : List ℕ) (i d : ℕ) → i < length xs → drop i xs ≡ get_or xs i d ∷ drop (i + 1) xs
drop_next xs i d h = let e : suc i ≡ i + 1 = omega arith in drop-cons xs i d h ∙ ap (λ j. get_or xs i d ∷ drop j xs) e

-- the index of the element of a task in the list
pub place-at : (ts : List Task) (i : ℕ) (t : Task) → i < length ts → t ≡ get_or ts i t → t.at ≡ get_or (places_of ts) i t.at
place-at ts i t inside is = ap (λ (u : Task). u.at) is ∙ sym (get_or-map (λ (u : Task). u.at) ts i t t.at inside)

some_same : (a b : Class) → Some a ≡ Some b → a ≡ b
some_same a b e = ap (λ (o : Option Class). elim o [ None ↦ a | Some c ↦ c ]) e

-- the class of an element determines its task
pub task-by_class : (v : Plant) (t : Task) → IsTaskIn v.net.shapes t → task v t.at ≡ task_of (class_of_task t.kind) v t.at
task-by_class v t is = go (slice_get v.net.shapes t.at) is
  where
    go : (o : Option Shape) → option_map (λ (s : Shape). s.class) o ≡ Some (class_of_task t.kind) → by_shape v t.at o ≡ task_of (class_of_task t.kind) v t.at
    go None h = absurd (false≢true (ap is_some h))
    go (Some s) h = ap (λ (c : Class). task_of c v t.at) (some_same s.class (class_of_task t.kind) h)
