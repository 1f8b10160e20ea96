-- Lemmas about the plant that begins with a net and first states.
use Rattle.std.proofs.Common.{◌≡◌, ◌≢◌, ◌⊎◌, inl, inr, ℕ, ◌+◌, refl, sym, ap, ◌∙◌, List, [], ◌∷◌, Bool, true, false, ◌<◌, length, arith, cond, position, Option, Some, None}
use Rattle.std.specs.Prelude.{IfSome}
use Rattle.std.proofs.lemmas.List.Quantifiers.{position-Some}
use Rattle.std.specs.List.{position_from}
use Rattle.std.specs.Str.{bytes_eq}
use Rattle.std.proofs.lemmas.Iterator.Adapters.{position_from-zero}
use Rattle.click_classes.specs.Acts.{is_sink, is_source}
use Rattle.click_classes.specs.declared.state.State.{State}
use Rattle.click_classes.specs.declared.state.State.TheVariants as state
use Rattle.click_ports.specs.Net.{Net}
use Rattle.click_ports.specs.declared.shape.Shape.{Shape}
use Rattle.click_engine.specs.declared.run_state.Element.{Element}
use Rattle.click_engine.specs.declared.devices.PacketDirection.{PacketDirection}
use Rattle.click_engine.specs.declared.devices.PacketDirection.TheVariants as direction
use Rattle.click_engine.specs.Devices.{Device, without, devices_from, element_with}
use Rattle.click_engine.specs.kept.Tables.{AreAmong}
use Rattle.click_engine.specs.Plant.{Plant, IsStarted}
use Rattle.click_engine.specs.Rounds.{source_of, sink_of}
use Rattle.click_engine.specs.Tasks.{AreTasks, over, task, idle}
use Rattle.click_engine.proofs.OfNames.FirstDevices.{bytes_tell}

same_tasks : (net : Net) (at : ℕ) (ss : List Shape) (xs ys : List ℕ) → AreTasks net at ss xs → AreTasks net at ss ys → xs ≡ ys
same_tasks net at [] _ _ (over _) (over _) = refl
same_tasks net at (s ∷ ss) (_ ∷ xs) (_ ∷ ys) (task _ _ _ _ h r) (task _ _ _ _ k q) = ap (λ zs. at ∷ zs) (same_tasks net (at + 1) ss xs ys r q)
same_tasks net at (s ∷ ss) (_ ∷ xs) ys (task _ _ _ _ h r) (idle _ _ _ _ k q) = absurd (k h)
same_tasks net at (s ∷ ss) xs (_ ∷ ys) (idle _ _ _ _ h r) (task _ _ _ _ k q) = absurd (h k)
same_tasks net at (s ∷ ss) xs ys (idle _ _ _ _ h r) (idle _ _ _ _ k q) = same_tasks net (at + 1) ss xs ys r q

abbrev plant : Net → List ℕ → List Device → List Device → List Element → ℕ → Plant
plant n t s k e o = record { net = n; tasks = t; sources = s; sinks = k; elements = e; overruns = o }

pub one_beginning : (net : Net) (states : List State) (v w : Plant) → IsStarted net states v → IsStarted net states w → v ≡ w
one_beginning net states v w h k =
    let net_is : v.net ≡ w.net = h.net_is ∙ sym k.net_is in
    let tasks : v.tasks ≡ w.tasks = same_tasks net 0 net.shapes v.tasks w.tasks h.tasks_are k.tasks_are in
    let sources : v.sources ≡ w.sources = h.sources_are ∙ sym k.sources_are in
    let sinks : v.sinks ≡ w.sinks = h.sinks_are ∙ sym k.sinks_are in
    let elements : v.elements ≡ w.elements = h.elements_are ∙ sym k.elements_are in
    let overruns : v.overruns ≡ w.overruns = h.none_overrun ∙ sym k.none_overrun in
    let same : plant v.net v.tasks v.sources v.sinks v.elements v.overruns ≡ plant w.net w.tasks w.sources w.sinks w.elements w.overruns =
    rw (net_is, tasks, sources, sinks, elements, overruns) refl in
    same

-- a device that is not left out is found at the same index
found-without : (m n : List ℕ) (ds : List Device) → n ≢ m → element_with (without m ds) n ≡ element_with ds n
found-without m n [] h = refl
found-without m n (d ∷ ds) h = go (bytes_tell m d.name) (bytes_tell n d.name) (found-without m n ds h)
  where
    go : ((bytes_eq m d.name ≡ true) × (m ≡ d.name)) ⊎ ((bytes_eq m d.name ≡ false) × (m ≢ d.name))
        → ((bytes_eq n d.name ≡ true) × (n ≡ d.name)) ⊎ ((bytes_eq n d.name ≡ false) × (n ≢ d.name)) → element_with (without m ds) n ≡ element_with ds n
        → element_with (without m (d ∷ ds)) n ≡ element_with (d ∷ ds) n
    go (inl t) (inl u) ih = absurd (h (u.1 ∙ sym t.1))
    go (inl t) (inr u) ih = rw (t.0, u.0) ih
    go (inr t) (inl u) ih = rw (t.0, u.0) refl
    go (inr t) (inr u) ih = rw (t.0, u.0) ih

abbrev is_at : PacketDirection → List ℕ → State → Bool
is_at direction.In n s = is_source n s
is_at direction.Out n s = is_sink n s

-- a search for a device finds the device in front if the names are equal, and goes on if not
told : (n m : List ℕ) (at : ℕ) (ds : List Device) (o : Option ℕ) → element_with ds n ≡ o
    → element_with (record { name = m; element = at } ∷ without m ds) n ≡ cond (bytes_eq m n) (Some at) o
told n m at ds o h = go (bytes_tell n m) (bytes_tell m n)
  where
    go : ((bytes_eq n m ≡ true) × (n ≡ m)) ⊎ ((bytes_eq n m ≡ false) × (n ≢ m)) → ((bytes_eq m n ≡ true) × (m ≡ n)) ⊎ ((bytes_eq m n ≡ false) × (m ≢ n))
        → element_with (record { name = m; element = at } ∷ without m ds) n ≡ cond (bytes_eq m n) (Some at) o
    go (inl t) (inl u) = rw (t.0, u.0) refl
    go (inl t) (inr u) = absurd (u.1 (sym t.1))
    go (inr t) (inl u) = absurd (t.1 (sym u.1))
    go (inr t) (inr u) = rw (t.0, u.0) (found-without m n ds t.1 ∙ h)

first-found : (w : PacketDirection) (n : List ℕ) (at : ℕ) (ss : List State) → element_with (devices_from w at ss) n ≡ position_from (is_at w n) at ss
first-found w n at [] = refl
first-found direction.In n at (state.FromDevice m ∷ ss) = told n m at (devices_from direction.In (at + 1) ss) _ (first-found direction.In n (at + 1) ss)
first-found direction.In n at (s ∷ ss) = first-found direction.In n (at + 1) ss
first-found direction.Out n at (state.ToDevice m ∷ ss) = told n m at (devices_from direction.Out (at + 1) ss) _ (first-found direction.Out n (at + 1) ss)
first-found direction.Out n at (s ∷ ss) = first-found direction.Out n (at + 1) ss

pub enters_first : (net : Net) (states : List State) (v : Plant) → IsStarted net states v → (device : List ℕ) → source_of v device ≡ position (is_source device) states
enters_first net states v h device =
    ap (λ ds. element_with ds device) h.sources_are ∙ first-found direction.In device 0 states ∙ sym (position_from-zero (is_at direction.In device) states)

pub leaves_first : (net : Net) (states : List State) (v : Plant) → IsStarted net states v → (device : List ℕ) → sink_of v device ≡ position (is_sink device) states
leaves_first net states v h device =
    ap (λ ds. element_with ds device) h.sinks_are ∙ first-found direction.Out device 0 states ∙ sym (position_from-zero (is_at direction.Out device) states)

-- each device of these states is at one of them
pub devices_among : (w : PacketDirection) (ss : List State) (n : ℕ) (ds : List Device) → length ss ≡ n → ds ≡ devices_from w 0 ss → AreAmong n ds
devices_among w ss n ds l is device =
    let found : element_with ds device ≡ position (is_at w device) ss = ap (λ xs. element_with xs device) is ∙ first-found w device 0 ss ∙ sym (position_from-zero (is_at w device) ss) in
    rw found (go (position (is_at w device) ss) refl)
  where
    go : (o : Option ℕ) → position (is_at w device) ss ≡ o → IfSome o (λ at. at < n)
    go None e = tt
    go (Some at) e = omega (arith, l, (position-Some (is_at w device) ss at state.Idle e).0)
