-- A text has at most one first fault, and none if it opens a router.
use Rattle.std.proofs.Common.{◌≡◌, ◌⊎◌, ℕ, ◌≤◌, List, [], ◌∷◌, ◌++◌, length, Err, refl, sym, ap, ◌∙◌, subst, inl, inr, arith}
use Rattle.click_text.specs.declared.syntax.Config.{Config}
use Rattle.click_text.specs.declared.syntax.TextFault.{TextFault}
use Rattle.click_text.specs.Spelling.{longest_text, Spells, IsAnswered}
use Rattle.click_text.proofs.OfParser.OneAnswer.{spells_once, faults_once, spelled_has_no_fault}
use Rattle.click_classes.specs.declared.fault.ArgFault.{ArgFault}
use Rattle.click_classes.specs.declared.state.State.{State}
use Rattle.click_expand.specs.declared.flat.FlatElement.{FlatElement}
use Rattle.click_expand.specs.declared.flat.Flat.{Flat}
use Rattle.click_scopes.proofs.OfBodies.NestedBodies.{spelled-nested}
use Rattle.click_expand.proofs.OfUniqueness.OneFlatForm.{flat-no-fault}
use Rattle.click_expand.proofs.OfUniqueness.OneFault.{spelled-fault-once}
use Rattle.click_ports.specs.Breaches.{IsFirstBreach}
use Rattle.click_ports.specs.Net.{net_of}
use Rattle.click_ports.proofs.Lawfulness.{one-first}
use Rattle.click_router.specs.declared.fault.ConfigFault.{ConfigFault}
use Rattle.click_router.specs.State.{RouterState}
use Rattle.click_router.specs.Opened.{IsBegun, AreFresh, IsOpened, of_text_fault, of_expand_fault, of_argument_fault, of_port_fault, IsFirstFault, unreadable, not_flat, unfit, unlawful}
use Rattle.click_router.specs.kept.Refused.{IsUnfit, IsUnlawful, IsConfigFault}
use Rattle.click_router.proofs.OfOpenings.FirstStates.{begun_once, same_states, refused_state}
use Rattle.click_router.proofs.OfOpenings.OneOpening.{same_flat, refused}

abbrev IsOfText : List ℕ → ConfigFault → Type 0
IsOfText text f = (t : TextFault) × IsAnswered text t × (f ≡ of_text_fault text t)

abbrev IsOfConfig : List ℕ → ConfigFault → Type 0
IsOfConfig text f = (config : Config) × (length text ≤ longest_text) × Spells text config × IsConfigFault config f

layer : (text : List ℕ) (f : ConfigFault) → IsFirstFault text f → IsOfText text f ⊎ IsOfConfig text f
layer _ _ (unreadable text t a) = inl (t, a, refl)
layer _ _ (not_flat text config e within spells h) = inr (config, within, spells, inl (e, h, ap (λ t. of_expand_fault t e) (sym spells.copy)))
layer _ _ (unfit text config flat fit e more states f within spells h splits fresh begun) =
    inr (config, within, spells, inr (flat, h, inl (record { fit = fit; element = e; more = more; splits = splits; states = states; fresh = fresh; fault = f; refused = begun; is = refl })))
layer _ _ (unlawful text config flat states b within spells h fresh first) =
    inr (config, within, spells, inr (flat, h, inr (record { states = states; fresh = fresh; breach = b; first = first; is = refl })))

-- ---- a configuration has at most one fault

-- at most one element is the first that refuses its arguments
same_unfit : (fit others : List FlatElement) (e d : FlatElement) (more rest : List FlatElement) (qs rs : List State) (f g : ArgFault) → fit ++ e ∷ more ≡ others ++ d ∷ rest →
    AreFresh fit qs → AreFresh others rs → IsBegun e (Err f) → IsBegun d (Err g) → of_argument_fault e f ≡ of_argument_fault d g
same_unfit [] [] e d more rest qs rs f g same h k a b =
    let i : e ≡ d = cc in
    let p = begun_once d (Err f) (Err g) (subst (λ x. IsBegun x (Err f)) i a) b in
    let j : f ≡ g = cc in
    ap (λ x. of_argument_fault x f) i ∙ ap (of_argument_fault d) j
same_unfit [] (x ∷ others) e d more rest qs rs f g same h k a b =
    let i : x ≡ e = cc in absurd (refused_state [] x others rs f k (subst (λ y. IsBegun y (Err f)) (sym i) a))
same_unfit (x ∷ fit) [] e d more rest qs rs f g same h k a b =
    let i : x ≡ d = cc in absurd (refused_state [] x fit qs g h (subst (λ y. IsBegun y (Err g)) (sym i) b))
same_unfit (x ∷ fit) (y ∷ others) e d more rest [] rs f g same h k a b = absurd h
same_unfit (x ∷ fit) (y ∷ others) e d more rest (q ∷ qs) [] f g same h k a b = absurd k
same_unfit (x ∷ fit) (y ∷ others) e d more rest (q ∷ qs) (r ∷ rs) f g same h k a b =
    let i : fit ++ e ∷ more ≡ others ++ d ∷ rest = cc in same_unfit fit others e d more rest qs rs f g i h.1 k.1 a b

-- at most one breach is the first
same_breach : (flat : Flat) (f g : ConfigFault) → IsUnlawful flat f → IsUnlawful flat g → f ≡ g
same_breach flat f g u v =
    let q = same_states flat.elements u.states v.states u.fresh v.fresh in
    let h = subst (λ qs. IsFirstBreach (net_of flat qs).shapes (net_of flat qs).connections u.breach) q u.first in
    u.is ∙ ap (of_port_fault flat.elements) (one-first (net_of flat v.states).shapes (net_of flat v.states).connections u.breach v.breach h v.first) ∙ sym v.is

unfit-fresh : (flat : Flat) (f : ConfigFault) (states : List State) → IsUnfit flat.elements f → AreFresh flat.elements states → ⊥
unfit-fresh flat f states u fresh = refused_state u.fit u.element u.more states u.fault (subst (λ es. AreFresh es states) u.splits fresh) u.refused

in_flat : (flat : Flat) (f g : ConfigFault) → IsUnfit flat.elements f ⊎ IsUnlawful flat f → IsUnfit flat.elements g ⊎ IsUnlawful flat g → f ≡ g
in_flat flat f g (inl u) (inl v) =
    u.is ∙ same_unfit u.fit v.fit u.element v.element u.more v.more u.states v.states u.fault v.fault (sym u.splits ∙ v.splits) u.fresh v.fresh u.refused v.refused ∙ sym v.is
in_flat flat f g (inl u) (inr v) = absurd (unfit-fresh flat f v.states u v.fresh)
in_flat flat f g (inr u) (inl v) = absurd (unfit-fresh flat g u.states v u.fresh)
in_flat flat f g (inr u) (inr v) = same_breach flat f g u v

module _ (text : List ℕ) (config : Config) (spells : Spells text config) where
  refused_once : (f g : ConfigFault) → IsConfigFault config f → IsConfigFault config g → f ≡ g
  refused_once f g (inl (e, h, is)) (inl (d, k, also)) =
      is ∙ ap (of_expand_fault config.text) (spelled-fault-once text config (spelled-nested text config spells) spells e d h k) ∙ sym also
  refused_once f g (inl (e, h, is)) (inr (flat, k, bad)) = absurd (flat-no-fault config (spelled-nested text config spells) flat e k h)
  refused_once f g (inr (flat, h, bad)) (inl (d, k, also)) = absurd (flat-no-fault config (spelled-nested text config spells) flat d h k)
  refused_once f g (inr (flat, h, bad)) (inr (other, k, wrong)) =
      let same = same_flat text config spells flat other h k in
      in_flat other f g (subst (λ (x : Flat). IsUnfit x.elements f ⊎ IsUnlawful x f) same bad) wrong

-- ---- a text has at most one fault

answered_once : (text : List ℕ) (t u : TextFault) → IsAnswered text t → IsAnswered text u → t ≡ u
answered_once text t u (inl (large, k)) (inl (_, l)) = k ∙ sym l
answered_once text t u (inl (large, k)) (inr (within, h)) = absurd (omega (arith, large, within))
answered_once text t u (inr (within, h)) (inl (large, k)) = absurd (omega (arith, large, within))
answered_once text t u (inr (within, h)) (inr (_, g)) = faults_once text t u h g

answered-spelled : (text : List ℕ) (t : TextFault) (config : Config) → IsAnswered text t → length text ≤ longest_text → Spells text config → ⊥
answered-spelled text t config (inl (large, k)) within spells = absurd (omega (arith, large, within))
answered-spelled text t config (inr (_, h)) within spells = spelled_has_no_fault text config t spells h

once : (text : List ℕ) (f g : ConfigFault) → IsOfText text f ⊎ IsOfConfig text f → IsOfText text g ⊎ IsOfConfig text g → f ≡ g
once text f g (inl (t, a, k)) (inl (u, b, l)) = k ∙ ap (of_text_fault text) (answered_once text t u a b) ∙ sym l
once text f g (inl (t, a, k)) (inr (config, within, spells, h)) = absurd (answered-spelled text t config a within spells)
once text f g (inr (config, within, spells, h)) (inl (t, a, k)) = absurd (answered-spelled text t config a within spells)
once text f g (inr (config, within, spells, h)) (inr (other, _, also, k)) =
    let same = spells_once text config other spells also in
    refused_once text other also f g (subst (λ (c : Config). IsConfigFault c f) same h) k

pub first_fault_once : (text : List ℕ) (f g : ConfigFault) → IsFirstFault text f → IsFirstFault text g → f ≡ g
first_fault_once text f g h k = once text f g (layer text f h) (layer text g k)

-- ---- a text that opens has no fault

opened-layer : (text : List ℕ) (s : RouterState) (f : ConfigFault) → IsOpened text s → IsOfText text f ⊎ IsOfConfig text f → ⊥
opened-layer text s f o (inl (t, a, k)) = answered-spelled text t o.config a o.within o.spells
opened-layer text s f o (inr (config, within, spells, h)) =
    let same = spells_once text config o.config spells o.spells in
    refused text o.config o.spells f s.flat s.plant (subst (λ (c : Config). IsConfigFault c f) same h) o.opens

pub opened_has_no_fault : (text : List ℕ) (s : RouterState) (f : ConfigFault) → IsOpened text s → IsFirstFault text f → ⊥
opened_has_no_fault text s f o h = opened-layer text s f o (layer text f h)
