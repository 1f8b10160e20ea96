-- Lemmas about reads after a write.
use Rattle.std.proofs.Common.{◌≡◌, ℕ, ◌<◌, List, length, Option, Result, Ok, Err, refl, rules}
use Rattle.std.specs.Prelude.{codes, decimal, IsSome, Bool, false}
use Rattle.std.proofs.lemmas.Bool.{lt-ltb}
use Rattle.std.proofs.lemmas.List.{get_or-set_same}
use Rattle.click_classes.specs.Queues.{queue_of}
use Rattle.click_classes.specs.State.{class}
use Rattle.click_classes.specs.Values.{truth}
use Rattle.click_base.specs.declared.class.Class.TheVariants as is
use Rattle.click_classes.specs.declared.state.State.{State}
use Rattle.click_classes.specs.declared.state.State.TheVariants as state
use Rattle.click_engine.specs.declared.run_state.Element.{Element}
use Rattle.click_base.specs.Blanks.{trimmed}
use Rattle.click_base.specs.Numbers.{decimal_number}
use Rattle.click_handlers.specs.Names.{active_port}
use Rattle.click_handlers.specs.Reads.{read_value, read_state, port_text, truth_text}
use Rattle.click_handlers.specs.Writes.{write_value, write_state, with_state, written_port}
use Rattle.click_handlers.specs.declared.fault.HandlerFault.{HandlerFault}

-- a read after a write reads the state that the write made
pub read_back : (told asked : List ℕ) (e f : Element) (text any : List ℕ) (value : Result (List ℕ) HandlerFault)
    → ((t : State) → write_state e.inputs e.outputs e.state told (trimmed text) ≡ Ok t → read_state e.inputs t asked any ≡ value)
    → write_value told e text ≡ Ok f → read_value asked f any ≡ value
read_back told asked e f text any value reads done = go (write_state e.inputs e.outputs e.state told (trimmed text)) refl done where
  go : (r : Result State HandlerFault) → write_state e.inputs e.outputs e.state told (trimmed text) ≡ r → with_state e r ≡ Ok f → read_value asked f any ≡ value
  go (Ok t) made done = let same : record e { state = t } ≡ f = cc in rw (← same) (reads t made)
  go (Err x) made done = cc

pub capacity_at : (inputs outputs : ℕ) (s : State) (text any : List ℕ) (n : ℕ) (t : State) → IsSome (queue_of s) → decimal_number 1 10000 text ≡ Ok n
    → write_state inputs outputs s (codes "capacity") text ≡ Ok t → read_state inputs t (codes "capacity") any ≡ Ok (decimal n)
capacity_at inputs outputs (state.Queue list drops highest) text any n t some number made = let m = rw number at made in let same = ok_is m in rw (← same) refl where
  ok_is : {x t : State} → ◌≡◌ {A = Result State HandlerFault} (Ok x) (Ok t) → x ≡ t
  ok_is e = cc
capacity_at inputs outputs (state.FrontDropQueue list drops highest) text any n t some number made = let m = rw number at made in let same = ok_is m in rw (← same) refl where
  ok_is : {x t : State} → ◌≡◌ {A = Result State HandlerFault} (Ok x) (Ok t) → x ≡ t
  ok_is e = cc
capacity_at inputs outputs _ text any n t some number made = absurd (search rules)

pub switch_at : (inputs outputs : ℕ) (s : State) (text any : List ℕ) (port : Option ℕ) (t : State) → class s ≡ is.Switch → written_port outputs text ≡ Ok port
    → write_state inputs outputs s (codes "switch") text ≡ Ok t → read_state inputs t (codes "switch") any ≡ Ok (port_text port)
switch_at inputs outputs (state.Switch output) text any port t e number made = let m = rw number at made in let same = ok_is m in rw (← same) refl where
  ok_is : {x t : State} → ◌≡◌ {A = Result State HandlerFault} (Ok x) (Ok t) → x ≡ t
  ok_is e = cc
switch_at inputs outputs _ text any port t e number made = cc

pub pull_switch_at : (inputs outputs : ℕ) (s : State) (text any : List ℕ) (port : Option ℕ) (t : State) → class s ≡ is.PullSwitch → written_port inputs text ≡ Ok port
    → write_state inputs outputs s (codes "switch") text ≡ Ok t → read_state inputs t (codes "switch") any ≡ Ok (port_text port)
pull_switch_at inputs outputs (state.PullSwitch input) text any port t e number made = let m = rw number at made in let same = ok_is m in rw (← same) refl where
  ok_is : {x t : State} → ◌≡◌ {A = Result State HandlerFault} (Ok x) (Ok t) → x ≡ t
  ok_is e = cc
pull_switch_at inputs outputs _ text any port t e number made = cc

pub count_at : (inputs outputs : ℕ) (s : State) (text any : List ℕ) (t : State) → class s ≡ is.Counter → write_state inputs outputs s (codes "reset_counts") text ≡ Ok t
    → (read_state inputs t (codes "count") any ≡ Ok (decimal 0)) × (read_state inputs t (codes "byte_count") any ≡ Ok (decimal 0))
count_at inputs outputs (state.Counter count byte_count) text any t e made = let same = ok_is made in (rw (← same) refl, rw (← same) refl) where
  ok_is : {x t : State} → ◌≡◌ {A = Result State HandlerFault} (Ok x) (Ok t) → x ≡ t
  ok_is e = cc
count_at inputs outputs _ text any t e made = cc

pub active_at : (inputs outputs : ℕ) (s : State) (active : List Bool) (name text any : List ℕ) (port : ℕ) (b : Bool) (t : State) → s ≡ state.Suppressor active
    → active_port name ≡ port → port < inputs → port < length active → truth text ≡ Ok b
    → write_state inputs outputs s name text ≡ Ok t → read_state inputs t name any ≡ Ok (truth_text b)
active_at inputs outputs s active name text any port b t is named below held flag made =
    let m = rw (is, named, lt-ltb port inputs below, flag) at made in
    let same = ok_is m in
    rw (← same, named, lt-ltb port inputs below, get_or-set_same active port b false held) refl where
      ok_is : {x t : State} → ◌≡◌ {A = Result State HandlerFault} (Ok x) (Ok t) → x ≡ t
      ok_is e = cc
