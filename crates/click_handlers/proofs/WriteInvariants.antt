-- What a write preserves of an element.
use Rattle.std.proofs.Common.{◌≡◌, ℕ, ◌≤◌, List, length, slice_set, Bool, true, false, nat_lt, if◌then◌else◌, Option, Some, None, Result, Ok, Err, codes, refl, sym, ap, ◌∙◌, subst, arith}
use Rattle.std.specs.Str.{bytes_eq}
use Rattle.std.proofs.lemmas.Bool.Decides.{nat_tests}
use Rattle.std.proofs.lemmas.List.{length-take}
use Rattle.click_classes.specs.Ports.{counts, at_least}
use Rattle.click_classes.specs.Fitting.{FitsPorts, HasTurn}
use Rattle.click_classes.specs.Queues.{Queued, IsSound}
use Rattle.click_classes.specs.State.{class}
use Rattle.click_classes.specs.declared.ports.Counts.{Counts}
use Rattle.click_classes.specs.declared.state.State.{State}
use Rattle.click_classes.specs.declared.state.State.TheVariants as state
use Rattle.click_engine.specs.declared.run_state.Element.{Element}
use Rattle.click_base.specs.Blanks.{trimmed}
use Rattle.click_handlers.specs.Names.{active_port}
use Rattle.click_handlers.specs.Writes.{number_from, port_below, written_port, written_flag, resized, with_capacity, without_counts, emptied, write_queue, write_querier, as_state, write_state, with_state, write_value}
use Rattle.click_handlers.specs.declared.fault.HandlerFault.{HandlerFault}
use Rattle.click_handlers.specs.declared.fault.HandlerFault.TheVariants as fault

-- what a write preserves of a state
pub record IsKept (inputs outputs : ℕ) (s t : State) : Type 0 where
  pub its_class : class t ≡ class s
  pub fits : FitsPorts inputs outputs s → FitsPorts inputs outputs t
  pub sound : IsSound s → IsSound t

ok_is : {X : Type 0} (x y : X) → ◌≡◌ {A = Result X HandlerFault} (Ok x) (Ok y) → x ≡ y
ok_is x y e = cc

-- a state after a successful write is made of a value
made_by : {X : Type 0} (f : X → State) (r : Result X HandlerFault) (t : State) → as_state f r ≡ Ok t → (x : X) × (r ≡ Ok x) × (f x ≡ t)
made_by f (Ok x) t e = (x, refl, ok_is (f x) t e)
made_by f (Err h) t e = absurd (let k = e in cc)

-- one of two results
by_test : {X : Type 0} (b : Bool) (q r : Result X HandlerFault) (x : X) (P : X → Type 0) → (if b then q else r) ≡ Ok x → (q ≡ Ok x → P x) → (r ≡ Ok x → P x) → P x
by_test true q r x P e h k = h e
by_test false q r x P e h k = k e

-- ---- queues

abbrev HasRoom : Queued → Type 0
HasRoom q = (length q.list.packets ≤ q.list.capacity) × (length q.list.packets ≤ q.highest)

resized-room : (q : Queued) (n : ℕ) → HasRoom q → HasRoom (resized q n)
resized-room q n h = let long = length-take n q.list.packets in (omega (arith, long), omega (arith, long, h.1))

capacity-room : (q p : Queued) (r : Result ℕ HandlerFault) → with_capacity q r ≡ Ok p → HasRoom q → HasRoom p
capacity-room q p (Ok n) e h = subst HasRoom (ok_is (resized q n) p e) (resized-room q n h)
capacity-room q p (Err f) e h = absurd (let k = e in cc)

queue-room : (q p : Queued) (handler text : List ℕ) → write_queue q handler text ≡ Ok p → HasRoom q → HasRoom p
queue-room q p handler text e h =
    by_test (bytes_eq handler (codes "capacity")) (with_capacity q (number_from 1 10000 text)) (if bytes_eq handler (codes "reset_counts") then Ok (without_counts q) else Ok (emptied q)) p HasRoom e
    (λ k. capacity-room q p (number_from 1 10000 text) k h)
    (λ k. by_test (bytes_eq handler (codes "reset_counts")) (Ok (without_counts q)) (Ok (emptied q)) p HasRoom k
    (λ l. subst HasRoom (ok_is (without_counts q) p l) (h.0, omega arith))
    (λ l. subst HasRoom (ok_is (emptied q) p l) (omega arith, omega arith)))

-- ---- switches

port-below : (ports : ℕ) (r : Result ℕ HandlerFault) (o : Option ℕ) → port_below ports r ≡ Ok o → at_least o ≤ ports
port-below ports (Ok n) o e = go (nat_lt n ports) refl e
  where
    go : (b : Bool) → nat_lt n ports ≡ b → (if b then Ok (Some n) else Err fault.OutOfRange) ≡ Ok o → at_least o ≤ ports
    go true t k = subst (λ p. at_least p ≤ ports) (ok_is (Some n) o k) (grind (arith, nat_tests))
    go false t k = absurd (let l = k in cc)
port-below ports (Err f) o e = absurd (let k = e in cc)

written-below : (ports : ℕ) (text : List ℕ) (o : Option ℕ) → written_port ports text ≡ Ok o → at_least o ≤ ports
written-below ports text o e =
    by_test (bytes_eq text (codes "-1")) (Ok None) (port_below ports (number_from 0 255 text)) o (λ p. at_least p ≤ ports) e
    (λ k. subst (λ p. at_least p ≤ ports) (ok_is None o k) (omega arith))
    (λ k. port-below ports (number_from 0 255 text) o k)

-- ---- states

-- a state of the same class that allows the same numbers of ports fits them
refitted : (inputs outputs : ℕ) (s t : State) → counts s ≡ counts t → HasTurn inputs outputs t → FitsPorts inputs outputs s → FitsPorts inputs outputs t
refitted inputs outputs s t same turn h = record {
  inputs_from = subst (λ (k : Counts). k.inputs.0 ≤ inputs) same h.inputs_from;
  inputs_to = subst (λ (k : Counts). inputs ≤ k.inputs.1) same h.inputs_to;
  outputs_from = subst (λ (k : Counts). k.outputs.0 ≤ outputs) same h.outputs_from;
  outputs_to = subst (λ (k : Counts). outputs ≤ k.outputs.1) same h.outputs_to;
  equal = λ e. h.equal (ap (λ (k : Counts). k.equal) same ∙ e);
  turn = turn;
}

itself : (inputs outputs : ℕ) (s : State) → IsKept inputs outputs s s
itself inputs outputs s = record { its_class = refl; fits = λ h. h; sound = λ h. h }

module _ (inputs outputs : ℕ) where
  abbrev Kept : State → State → Type 0
  Kept s t = IsKept inputs outputs s t

  state-kept : (s : State) (handler text : List ℕ) (t : State) → write_state inputs outputs s handler text ≡ Ok t → Kept s t
  state-kept (state.Queue list drops highest) handler text t e =
      let old : Queued = record { list = list; drops = drops; highest = highest } in
      let (q, made, is) = made_by (λ (q : Queued). state.Queue q.list q.drops q.highest) (write_queue old handler text) t e in
      subst (Kept (state.Queue list drops highest)) is (record {
        its_class = refl;
        fits = λ h. refitted inputs outputs (state.Queue list drops highest) (state.Queue q.list q.drops q.highest) refl tt h;
        sound = λ h. queue-room old q handler text made h;
      })
  state-kept (state.FrontDropQueue list drops highest) handler text t e =
      let old : Queued = record { list = list; drops = drops; highest = highest } in
      let (q, made, is) = made_by (λ (q : Queued). state.FrontDropQueue q.list q.drops q.highest) (write_queue old handler text) t e in
      subst (Kept (state.FrontDropQueue list drops highest)) is (record {
        its_class = refl;
        fits = λ h. refitted inputs outputs (state.FrontDropQueue list drops highest) (state.FrontDropQueue q.list q.drops q.highest) refl tt h;
        sound = λ h. queue-room old q handler text made h;
      })
  state-kept (state.Counter count byte_count) handler text t e =
      subst (Kept (state.Counter count byte_count)) (ok_is (state.Counter 0 0) t e) (record {
        its_class = refl;
        fits = λ h. refitted inputs outputs (state.Counter count byte_count) (state.Counter 0 0) refl tt h;
        sound = λ h. tt;
      })
  state-kept (state.Switch output) handler text t e =
      let (o, made, is) = made_by state.Switch (written_port outputs text) t e in
      subst (Kept (state.Switch output)) is (record {
        its_class = refl;
        fits = λ h. record {
          inputs_from = h.inputs_from;
          inputs_to = h.inputs_to;
          outputs_from = written-below outputs text o made;
          outputs_to = h.outputs_to;
          equal = h.equal;
          turn = tt;
        };
        sound = λ h. tt;
      })
  state-kept (state.PullSwitch input) handler text t e =
      let (o, made, is) = made_by state.PullSwitch (written_port inputs text) t e in
      subst (Kept (state.PullSwitch input)) is (record {
        its_class = refl;
        fits = λ h. record {
          inputs_from = written-below inputs text o made;
          inputs_to = h.inputs_to;
          outputs_from = h.outputs_from;
          outputs_to = h.outputs_to;
          equal = h.equal;
          turn = tt;
        };
        sound = λ h. tt;
      })
  state-kept (state.Suppressor active) handler text t e =
      by_test (nat_lt (active_port handler) inputs) (as_state (λ b. state.Suppressor (slice_set active (active_port handler) b)) (written_flag text)) (Err fault.OutOfRange) t (Kept (state.Suppressor active)) e
      (λ k.
      let (b, made, is) = made_by (λ b. state.Suppressor (slice_set active (active_port handler) b)) (written_flag text) t k in
      subst (Kept (state.Suppressor active)) is (record {
        its_class = refl;
        fits = λ h. refitted inputs outputs (state.Suppressor active) (state.Suppressor (slice_set active (active_port handler) b)) refl tt h;
        sound = λ h. tt;
      }))
      (λ k. absurd (let l = k in cc))
  state-kept (state.InfiniteSource bytes limit burst active count) handler text t e =
      let s = state.InfiniteSource bytes limit burst active count in
      by_test (bytes_eq handler (codes "active")) (as_state (λ b. state.InfiniteSource bytes limit burst b count) (written_flag text)) (Ok (state.InfiniteSource bytes limit burst active 0)) t (Kept s) e
      (λ k.
      let (b, made, is) = made_by (λ b. state.InfiniteSource bytes limit burst b count) (written_flag text) t k in
      subst (Kept s) is (record {
        its_class = refl;
        fits = λ h. refitted inputs outputs s (state.InfiniteSource bytes limit burst b count) refl tt h;
        sound = λ h. tt;
      }))
      (λ k. subst (Kept s) (ok_is (state.InfiniteSource bytes limit burst active 0) t k) (record {
        its_class = refl;
        fits = λ h. refitted inputs outputs s (state.InfiniteSource bytes limit burst active 0) refl tt h;
        sound = λ h. tt;
      }))
  state-kept (state.ARPQuerier querier) handler text t e =
      let (q, made, is) = made_by state.ARPQuerier (write_querier querier handler text) t e in
      subst (Kept (state.ARPQuerier querier)) is (record {
        its_class = refl;
        fits = λ h. refitted inputs outputs (state.ARPQuerier querier) (state.ARPQuerier q) refl tt h;
        sound = λ h. tt;
      })
  state-kept s handler text t e = subst (Kept s) (ok_is s t e) (itself inputs outputs s)

-- ---- elements

-- what a write preserves of an element
pub record IsWritten (e f : Element) : Type 0 where
  pub class : f.class ≡ e.class
  pub inputs : f.inputs ≡ e.inputs
  pub outputs : f.outputs ≡ e.outputs
  pub state : IsKept e.inputs e.outputs e.state f.state

in_state : Element → State → Element
in_state e s = record e { state = s }

pub element-kept : (handler text : List ℕ) (e f : Element) → write_value handler e text ≡ Ok f → IsWritten e f
unfolding in_state
element-kept handler text e f done = go (write_state e.inputs e.outputs e.state handler (trimmed text)) refl done
  where
    go : (r : Result State HandlerFault) → write_state e.inputs e.outputs e.state handler (trimmed text) ≡ r → with_state e r ≡ Ok f → IsWritten e f
    go (Ok t) made k =
        subst (IsWritten e) (ok_is (in_state e t) f k) (record { class = refl; inputs = refl; outputs = refl; state = state-kept e.inputs e.outputs e.state handler (trimmed text) t made })
    go (Err x) made k = absurd (let l = k in cc)

pub fits-after : (handler text : List ℕ) (e f : Element) → write_value handler e text ≡ Ok f → FitsPorts e.inputs e.outputs e.state → FitsPorts f.inputs f.outputs f.state
fits-after handler text e f done h =
    let k = element-kept handler text e f done in
    subst (λ n. FitsPorts n f.outputs f.state) (sym k.inputs) (subst (λ n. FitsPorts e.inputs n f.state) (sym k.outputs) (k.state.fits h))
