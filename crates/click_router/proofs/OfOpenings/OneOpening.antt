-- A configuration opens at most one state, and none if it has a fault.
use Rattle.std.proofs.Common.{◌≡◌, ℕ, ◌≤◌, List, ◌∷◌, ◌++◌, length, Result, Ok, Err, sym, ap, ◌∙◌, subst, inl, inr}
use Rattle.std.specs.Result.{IfOk, IfErr}
use Rattle.click_text.specs.declared.syntax.Config.{Config}
use Rattle.click_text.specs.Spelling.{longest_text, Spells}
use Rattle.click_text.proofs.OfParser.OneAnswer.{spells_once}
use Rattle.click_expand.specs.declared.flat.Flat.{Flat}
use Rattle.click_expand.specs.Flat.{IsFlat}
use Rattle.click_scopes.proofs.OfBodies.NestedBodies.{spelled-nested}
use Rattle.click_expand.proofs.OfUniqueness.OneFlatForm.{flat-once, flat-no-fault}
use Rattle.click_engine.specs.Plant.{Plant, IsStarted}
use Rattle.click_ports.specs.Net.{net_of}
use Rattle.click_ports.proofs.Lawfulness.{lawful-none}
use Rattle.click_router.specs.declared.fault.ConfigFault.{ConfigFault}
use Rattle.click_router.specs.State.{RouterState}
use Rattle.click_router.specs.Opened.{AreFresh, IsLawful, Begins, OpensAs, IsOpened, of_expand_fault, IsFirstFault, not_flat, unfit, unlawful, IsMemoryOr, IsGiven}
use Rattle.click_router.specs.kept.Refused.{IsConfigFault}
use Rattle.click_router.proofs.OfOpenings.FirstStates.{same_states, refused_state}
use Rattle.click_engine.proofs.OfPlants.FirstPlant.{one_beginning}

router : List ℕ → Flat → Plant → RouterState
router text flat plant = record { text = text; flat = flat; plant = plant }

-- at most one plant begins with a flat form
begins_same : (f g : Flat) (p q : Plant) → f ≡ g → Begins f p → Begins g q → p ≡ q
begins_same f g p q same h k =
    let fresh = subst (λ (x : Flat). AreFresh x.elements h.states) same h.fresh in
    let states = same_states g.elements h.states k.states fresh k.fresh in
    let started = subst (λ x. IsStarted (net_of x h.states) h.states p) same h.started in
    one_beginning (net_of g k.states) k.states p q (subst (λ x. IsStarted (net_of g x) x p) states started) k.started

module _ (text : List ℕ) (config : Config) (spells : Spells text config) where
  pub same_flat : (f g : Flat) → IsFlat config f → IsFlat config g → f ≡ g
  same_flat f g h k = flat-once config (spelled-nested text config spells) f g h k

  -- at most one state
  pub opens_same : (s t : RouterState) → OpensAs config s.flat s.plant → OpensAs config t.flat t.plant → s.text ≡ t.text → s ≡ t
  unfolding router
  opens_same s t h k e =
      let f = same_flat s.flat t.flat h.is_flat k.is_flat in
      let q = begins_same s.flat t.flat s.plant t.plant f h.begins k.begins in
      ap (λ x. router x s.flat s.plant) e ∙ ap (λ x. router t.text x s.plant) f ∙ ap (router t.text t.flat) q

  -- a configuration that opens a state is not refused
  pub refused : (f : ConfigFault) (flat : Flat) (plant : Plant) → IsConfigFault config f → OpensAs config flat plant → ⊥
  refused f flat plant (inl (e, h, is)) o = flat-no-fault config (spelled-nested text config spells) flat e o.is_flat h
  refused f flat plant (inr (other, h, inl u)) o =
      let es : flat.elements ≡ u.fit ++ u.element ∷ u.more = ap (λ (x : Flat). x.elements) (same_flat flat other o.is_flat h) ∙ u.splits in
      refused_state u.fit u.element u.more o.begins.states u.fault (subst (λ ds. AreFresh ds o.begins.states) es o.begins.fresh) u.refused
  refused f flat plant (inr (other, h, inr u)) o =
      let states = o.begins.states in
      let same = same_flat flat other o.is_flat h in
      let q = same_states other.elements states u.states (subst (λ (x : Flat). AreFresh x.elements states) same o.begins.fresh) u.fresh in
      let l : IsLawful other u.states = subst (IsLawful other) q (subst (λ x. IsLawful x states) same o.begins.lawful) in
      lawful-none (net_of other u.states).shapes (net_of other u.states).connections u.breach l u.first.breach

  -- the state that a configuration opens is the result, except when out of memory
  pub given : (r : Result RouterState ConfigFault) (s : RouterState) → IfOk r (λ p. OpensAs config p.flat p.plant × (p.text ≡ config.text)) →
      IfErr r (λ f. IsMemoryOr f (IsConfigFault config f)) → OpensAs config s.flat s.plant → s.text ≡ config.text → IsGiven r s
  given (Ok p) s h g o e = opens_same p s h.0 o (h.1 ∙ sym e)
  given (Err f) s h (inl m) o e = m
  given (Err f) s h (inr bad) o e = absurd (refused f s.flat s.plant bad o)

  pub first_fault : (f : ConfigFault) → length text ≤ longest_text → IsConfigFault config f → IsFirstFault text f
  first_fault f within (inl (e, h, is)) = subst (IsFirstFault text) (sym (is ∙ ap (λ t. of_expand_fault t e) spells.copy)) (not_flat text config e within spells h)
  first_fault f within (inr (flat, h, inl u)) =
      subst (IsFirstFault text) (sym u.is) (unfit text config flat u.fit u.element u.more u.states u.fault within spells h u.splits u.fresh u.refused)
  first_fault f within (inr (flat, h, inr u)) = subst (IsFirstFault text) (sym u.is) (unlawful text config flat u.states u.breach within spells h u.fresh u.first)

-- a text opens at most one state
pub opened_once : (text : List ℕ) (s t : RouterState) → IsOpened text s → IsOpened text t → s ≡ t
opened_once text s t h k =
    let same = spells_once text h.config k.config h.spells k.spells in
    opens_same text k.config k.spells s t (subst (λ (c : Config). OpensAs c s.flat s.plant) same h.opens) k.opens (h.copy ∙ sym k.copy)
