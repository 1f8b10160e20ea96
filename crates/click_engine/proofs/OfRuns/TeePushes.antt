-- A push into a Tee.
use Rattle.std.proofs.Common.{◌≡◌, ℕ, suc, ◌<◌, refl, sym, ap, ◌∙◌, set, Option, Some}
use Rattle.std.proofs.lemmas.List.{set-get_or}
use Rattle.click_packet.specs.Packet.{Packet}
use Rattle.click_classes.specs.Acts.{act}
use Rattle.click_classes.specs.declared.state.State.{State}
use Rattle.click_classes.specs.declared.state.State.TheVariants as state
use Rattle.click_engine.specs.declared.run_state.ConnectionEnd.{ConnectionEnd}
use Rattle.click_engine.specs.RunState.{Wiring, RunState, element_at, with_state, acted_at, spent, blank}
use Rattle.click_engine.specs.Run.{push, sent}
use Rattle.click_engine.proofs.OfRuns.RunSteps.{push-some}

-- writing back the state that an element has changes nothing
same_state : (w : RunState) (at : ℕ) (s : State) → (element_at w at).state ≡ s → with_state w at s ≡ w
same_state w at s e =
    let same : record (element_at w at) { state = s } ≡ element_at w at = ap (λ (t : State). record (element_at w at) { state = t }) (sym e) in
    ap (λ f. record w { elements = set w.elements at f }) same ∙ ap (λ es. record w { elements = es }) (set-get_or w.elements at blank)

act-tee : (outputs input : ℕ) (n : Option ℕ) (p : Packet)
    → act outputs (state.Tee n) input p ≡ record { state = state.Tee n; packet = p; outputs = record { first = 0; count = outputs } }
unfolding act
act-tee outputs input n p = refl

pub push-tee : (net : Wiring) (depth : ℕ) (w : RunState) (at output : ℕ) (p : Packet) (far : ConnectionEnd) (n : Option ℕ) → 0 < w.left → net.target at output ≡ Some far
    → (element_at w far.element).state ≡ state.Tee n
    → push net (suc depth) w at output p ≡ sent net depth far.element p (element_at w far.element).outputs 0 (spent w)
push-tee net depth w at output p far n some e is =
    let acted : acted_at (spent w) far.element far.port p ≡ record { state = state.Tee n; packet = p; outputs = record { first = 0; count = (element_at w far.element).outputs } } =
    ap (λ s. act (element_at w far.element).outputs s far.port p) is ∙ act-tee (element_at w far.element).outputs far.port n p in
    push-some net w at output (suc depth) depth p far refl some e
    ∙ (rw (acted, same_state (spent w) far.element (state.Tee n) is) refl)
