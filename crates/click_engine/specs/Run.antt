-- Pushes and pulls, by recursion on the crossings left.
--
-- `left` is the number of crossings that the packet run has left. `depth` bounds the depth of the
-- recursion. Each level spends a crossing, so a depth of at least `left` changes nothing.
use Rattle.std.specs.Prelude.{◌≡◌, ℕ, zero, suc, ◌+◌, Bool, Option, Some, None, if◌then◌else◌, ◌==◌}
use Rattle.click_packet.specs.Packet.{Packet}
use Rattle.click_classes.specs.Acts.{after}
use Rattle.click_classes.specs.Acts.{tries, stored}
use Rattle.click_engine.specs.RunState.{Wiring, RunState, element_at, with_state, acted_at, given_at, spent, overrun}

-- the run state after a pull, and its answer
pub record Pulled : Type 0 where
  pub run_state : RunState
  pub packet : Option Packet

abbrev pub nothing : RunState → Pulled
nothing w = record { run_state = w; packet = None }

-- `count` outputs from `first` on get the packet in order, each in the run state that the one
-- before left
abbrev pub spread : (RunState → ℕ → RunState) → ℕ → ℕ → RunState → RunState
spread push_at zero first w = w
spread push_at (suc count) first w = spread push_at count (first + 1) (push_at w first)

-- packet p was pulled through `input` of the element `at`: copies are pushed first, then the packet
-- is the answer
abbrev pub give : (RunState → ℕ → Packet → RunState) → RunState → ℕ → ℕ → Packet → Pulled
give push_at w at input p =
    let g = given_at w at input p in
    record {
      run_state = spread (λ v output. push_at v output g.packet) g.copies.count g.copies.first (with_state w at g.state);
      packet = if g.answers then Some g.packet else None;
    }

-- `count` inputs from `input` on, cyclically, are asked in order until one has a packet
abbrev pub ask : (RunState → ℕ → Pulled) → (RunState → ℕ → Packet → Pulled) → ℕ → ℕ → ℕ → RunState → Pulled
ask pull_at give_at inputs zero input w = nothing w
ask pull_at give_at inputs (suc count) input w =
    let r = pull_at w input in
    elim r.packet [
      | None ↦ ask pull_at give_at inputs count (after inputs input) r.run_state
      | Some p ↦ give_at r.run_state input p
    ]

module _ (net : Wiring) where
  -- a packet is pushed over the connection at an output
  unfoldable pub push : ℕ → RunState → ℕ → ℕ → Packet → RunState
  push zero w at output p = overrun w
  push (suc depth) w at output p =
      if w.left == 0 then overrun w
      else elim (net.target at output) [
        | None ↦ spent w
        | Some far ↦
            let a = acted_at (spent w) far.element far.port p in
            spread (λ v o. push depth v far.element o a.packet) a.outputs.count a.outputs.first (with_state (spent w) far.element a.state)
      ]

  -- a packet is pulled over the connection at an input
  unfoldable pub pull : ℕ → RunState → ℕ → ℕ → Pulled
  pull zero w at input = nothing (overrun w)
  pull (suc depth) w at input =
      if w.left == 0 then nothing (overrun w)
      else elim (net.source at input) [
        | None ↦ nothing (spent w)
        | Some far ↦
            let e = element_at (spent w) far.element in
            let t = tries e.inputs e.state far.port in
            elim (stored e.state) [
              | Some s ↦ record { run_state = with_state (spent w) far.element s.state; packet = Some s.packet }
              | None ↦
                  ask
                  (λ v i. pull depth v far.element i)
                  (λ v i p. give (λ u o q. push depth u far.element o q) v far.element i p)
                  e.inputs
                  t.count
                  t.first
                  (spent w)
            ]
      ]

  -- the parts of a push or pull, by the depth that is left
  abbrev pub sent : ℕ → ℕ → Packet → ℕ → ℕ → RunState → RunState
  sent depth at p count first w = spread (λ v o. push depth v at o p) count first w

  abbrev pub given : ℕ → ℕ → RunState → ℕ → Packet → Pulled
  given depth at w input p = give (λ u o q. push depth u at o q) w at input p

  abbrev pub asked : ℕ → ℕ → ℕ → ℕ → ℕ → RunState → Pulled
  asked depth at inputs count input w = ask (λ v i. pull depth v at i) (λ v i p. given depth at v i p) inputs count input w

-- a pull had this result; `yes` is whether `packet` is its answer
pub record Answers (r : Pulled) (w : RunState) (yes : Bool) (packet : Packet) : Type 0 where
  pub run_state : w ≡ r.run_state
  pub answer : r.packet ≡ (if yes then Some packet else None)
