-- A relation that packets preserve holds between each element before and after a task or a round.
use Rattle.std.proofs.Common.{◌≡◌, ℕ, zero, suc, refl, sym, ap, ◌∙◌, subst, List, [], ◌∷◌, slice_get, Option, Some, None}
use Rattle.click_packet.specs.Packet.{Packet}
use Rattle.click_classes.specs.Acts.{Stored, burst_of, emission}
use Rattle.click_base.specs.declared.class.Class.{Class}
use Rattle.click_base.specs.declared.class.Class.TheVariants as class
use Rattle.click_ports.specs.Net.{Net}
use Rattle.click_ports.specs.declared.shape.Shape.{Shape}
use Rattle.click_engine.specs.declared.run_state.Element.{Element}
use Rattle.click_engine.specs.Keeps.{AllAre, IsClosed, KeepsRest}
use Rattle.click_engine.specs.Plant.{Plant, most_crossings, wiring, begin, end}
use Rattle.click_engine.specs.Rounds.{source_of, sink_of, state_at, emitted, asks, arrive, transmit, RoundResult, idle, unqueued, discarded, sourced, bursts, task_of, task, tasks, round}
use Rattle.click_engine.specs.Run.{push}
use Rattle.click_engine.specs.Adjacency.{wiring_of}
use Rattle.click_engine.specs.RunState.{RunState, element_at, with_state}
use Rattle.click_engine.proofs.OfInvariants.RunRelations.{Relates, Kept, kept-same, kept-on, kept-set, push-kept, pull-kept}
use Rattle.click_engine.proofs.OfRuns.RoundTasks.{bursts-zero, burst-next, burst_by, tasks-none, tasks-next}

-- nothing changed except elements and overruns, there are as many elements as before, and each is
-- related to what it was
pub record PlantKept (R : ℕ → Element → Element → Type 0) (old new : Plant) : Type 0 where
  pub rest : KeepsRest old new
  pub elements : Kept R old.elements new.elements

-- the result of a task, given the result of its pull
abbrev unqueued_by : Plant → ℕ → RunState → Option Packet → RoundResult
unqueued_by v at w o = elim o [
  | None ↦ record { plant = end v w; packets = 0 }
  | Some p ↦ record { plant = end v (push (wiring v) most_crossings w at 0 p); packets = 1 }
]

abbrev discarded_by : Plant → RunState → Option Packet → RoundResult
discarded_by v w o = elim o [ None ↦ record { plant = end v w; packets = 0 } | Some p ↦ record { plant = end v w; packets = 1 } ]

abbrev task_by : Plant → ℕ → Option Shape → RoundResult
task_by v at o = elim o [ None ↦ idle v | Some shape ↦ task_of shape.class v at ]

module _ (P : ℕ → Type 0) (R : ℕ → Element → Element → Type 0) (r : Relates P R) where
  plant-same : (v : Plant) → PlantKept R v v
  plant-same v = record { rest = refl; elements = kept-same P R r v.elements }

  plant-on : (u v w : Plant) → PlantKept R u v → PlantKept R v w → PlantKept R u w
  plant-on u v w h k = record {
    rest = k.rest ∙ ap (λ (x : Plant). record x { elements = w.elements; overruns = w.overruns }) h.rest;
    elements = kept-on P R r u.elements v.elements w.elements h.elements k.elements;
  }

  module _ (v : Plant) (closed : IsClosed (wiring v) P) where
    ended : (w : RunState) → Kept R v.elements w.elements → PlantKept R v (end v w)
    ended w h = record { rest = refl; elements = h }

    emitted-kept : (at : ℕ) (p : Packet) → P at → PlantKept R v (emitted v at p)
    emitted-kept at p h =
        ended (push (wiring v) most_crossings (begin most_crossings v) at 0 p) (push-kept P R r (wiring v) closed most_crossings (begin most_crossings v) at 0 p h)

    asks-kept : (at : ℕ) → P at → Kept R v.elements (asks v at).run_state.elements
    asks-kept at h = pull-kept P R r (wiring v) closed most_crossings (begin most_crossings v) at 0 h

    pub arrive-kept : (device : List ℕ) (p : Packet) → ((at : ℕ) → source_of v device ≡ Some at → P at) → PlantKept R v (arrive v device p)
    arrive-kept device p h = go (source_of v device) refl
      where
        go : (o : Option ℕ) → source_of v device ≡ o → PlantKept R v (elim o [ None ↦ v | Some at ↦ emitted v at p ])
        go None e = plant-same v
        go (Some at) e = emitted-kept at p (h at e)

    pub transmit-kept : (device : List ℕ) → ((at : ℕ) → sink_of v device ≡ Some at → P at) → PlantKept R v (transmit v device)
    transmit-kept device h = go (sink_of v device) refl
      where
        go : (o : Option ℕ) → sink_of v device ≡ o → PlantKept R v (elim o [ None ↦ v | Some at ↦ end v (asks v at).run_state ])
        go None e = plant-same v
        go (Some at) e = ended (asks v at).run_state (asks-kept at (h at e))

    unqueued-kept : (at : ℕ) → P at → PlantKept R v (unqueued v at).plant
    unqueued-kept at h = go (asks v at).packet
      where
        go : (o : Option Packet) → PlantKept R v (unqueued_by v at (asks v at).run_state o).plant
        go None = ended (asks v at).run_state (asks-kept at h)
        go (Some p) =
            let pushed = push (wiring v) most_crossings (asks v at).run_state at 0 p in
            let with_taken_over = push-kept P R r (wiring v) closed most_crossings (asks v at).run_state at 0 p h in
            ended pushed (kept-on P R r v.elements (asks v at).run_state.elements pushed.elements (asks-kept at h) with_taken_over)

    discarded-kept : (at : ℕ) → P at → PlantKept R v (discarded v at).plant
    discarded-kept at h = go (asks v at).packet
      where
        go : (o : Option Packet) → PlantKept R v (discarded_by v (asks v at).run_state o).plant
        go None = ended (asks v at).run_state (asks-kept at h)
        go (Some p) = ended (asks v at).run_state (asks-kept at h)

    sourced-kept : (at : ℕ) (e : Stored) → P at → emission (state_at v at) ≡ Some e → PlantKept R v (sourced v at e)
    sourced-kept at e h is =
        let here = kept-set P R r v.elements at e.state (r.emitted at (element_at (begin most_crossings v) at) e h is) in
        let counted = with_state (begin most_crossings v) at e.state in
        let pushed = push (wiring v) most_crossings counted at 0 e.packet in
        ended pushed (kept-on P R r v.elements counted.elements pushed.elements here (push-kept P R r (wiring v) closed most_crossings counted at 0 e.packet h))

  module _ (net : Net) (closed : IsClosed (wiring_of net) P) where
    closed_in : (v : Plant) → v.net ≡ net → IsClosed (wiring v) P
    closed_in v e = subst (λ n. IsClosed (wiring_of n) P) (sym e) closed

    bursts-kept : (count at : ℕ) (v : Plant) → v.net ≡ net → P at → PlantKept R v (bursts count at v).plant
    bursts-kept zero at v e h = rw (bursts-zero zero at v refl) (plant-same v)
    bursts-kept (suc m) at v e h = rw (burst-next (suc m) m at v refl) (go (λ u f. bursts-kept m at u f h) (emission (state_at v at)) refl)
      where
        go : ((u : Plant) → u.net ≡ net → PlantKept R u (bursts m at u).plant) → (o : Option Stored) → emission (state_at v at) ≡ o
            → PlantKept R v (burst_by m at v o).plant
        go ih None f = plant-same v
        go ih (Some s) f = plant-on v (sourced v at s) _ (sourced-kept v (closed_in v e) at s h f) (ih (sourced v at s) e)

    task_of-kept : (c : Class) (v : Plant) (at : ℕ) → v.net ≡ net → P at → PlantKept R v (task_of c v at).plant
    task_of-kept class.InfiniteSource v at e h = bursts-kept (burst_of (state_at v at)) at v e h
    task_of-kept class.Unqueue v at e h = unqueued-kept v (closed_in v e) at h
    task_of-kept class.Discard v at e h = discarded-kept v (closed_in v e) at h
    task_of-kept _ v at e h = plant-same v

    task-kept : (v : Plant) (at : ℕ) → v.net ≡ net → P at → PlantKept R v (task v at).plant
    task-kept v at e h = go (slice_get v.net.shapes at)
      where
        go : (o : Option Shape) → PlantKept R v (task_by v at o).plant
        go None = plant-same v
        go (Some shape) = task_of-kept shape.class v at e h

    tasks-kept : (places : List ℕ) (v : Plant) → v.net ≡ net → AllAre P places → PlantKept R v (tasks places v).plant
    tasks-kept [] v e h = rw (tasks-none [] v refl) (plant-same v)
    tasks-kept (at ∷ places) v e h =
        let done = task-kept v at e h.0 in
        let rest = tasks-kept places (task v at).plant (ap (λ (x : Plant). x.net) done.rest ∙ e) h.1 in
        rw (tasks-next (at ∷ places) places at v refl) (plant-on v (task v at).plant _ done rest)

  pub task-within : (v : Plant) → IsClosed (wiring v) P → (at : ℕ) → P at → PlantKept R v (task v at).plant
  task-within v closed at h = task-kept v.net closed v at refl h

  pub round-kept : (v : Plant) → IsClosed (wiring v) P → AllAre P v.tasks → PlantKept R v (round v).plant
  round-kept v closed h = tasks-kept v.net closed v.tasks v refl h
