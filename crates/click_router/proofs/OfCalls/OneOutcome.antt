-- A swap installs its text or changes nothing, and a call has at most one reply.
use Rattle.std.proofs.Common.{◌≡◌, ◌⊎◌, ℕ, List, ◌∷◌, [], Bool, true, false, Some, None, if◌then◌else◌, refl, sym, ap, ◌∙◌, subst, inl, inr}
use Rattle.click_router.specs.One.{Answers, is_hotconfig, swap_text, write, entered, worked, sent}
use Rattle.click_router.specs.Opened.{IsOpened, IsFirstFault}
use Rattle.click_router.specs.State.{RouterState}
use Rattle.click_router.specs.Swap.{Swaps, taken, installed, refused}
use Rattle.click_router.specs.declared.call.Call.{Call}
use Rattle.click_router.specs.declared.call.Call.TheVariants as call
use Rattle.click_router.specs.declared.call.Refusal.{Refusal}
use Rattle.click_router.specs.declared.call.Refusal.TheVariants as refusal
use Rattle.click_router.specs.declared.call.Reply.{Reply}
use Rattle.click_router.specs.declared.call.Reply.TheVariants as reply
use Rattle.click_router.specs.declared.fault.ConfigFault.{ConfigFault}
use Rattle.click_router.proofs.OfOpenings.OneFault.{first_fault_once, opened_has_no_fault}
use Rattle.click_router.proofs.OfOpenings.OneOpening.{opened_once}

TakesOver : RouterState → List ℕ → RouterState → Reply → Type 0
TakesOver s text t r = (new : RouterState) × IsOpened text new × (t ≡ taken new s) × (r ≡ reply.Done)

IsRefused : RouterState → List ℕ → RouterState → Reply → Type 0
IsRefused s text t r = (f : ConfigFault) × IsFirstFault text f × (t ≡ s) × (r ≡ reply.Refused (refusal.Config f))

either : (s : RouterState) (text : List ℕ) (t : RouterState) (r : Reply) → Swaps s text t r → TakesOver s text t r ⊎ IsRefused s text t r
unfolding TakesOver IsRefused
either s text _ _ (installed new o) = inl (new, o, refl, refl)
either s text _ _ (refused f h) = inr (f, h, refl, refl)

WriteBy : Bool → RouterState → List ℕ → List ℕ → RouterState → Reply → Type 0
WriteBy b s name text t r = elim b [ true ↦ Swaps s text t r | false ↦ write s name text ≡ (t, r) ]

-- a call with the text of a swap has the replies of a swap to this text
by_name : (b : Bool) (s t : RouterState) (name text other : List ℕ) (r : Reply) → (if b then Some other else None) ≡ Some text → WriteBy b s name other t r → Swaps s text t r
unfolding WriteBy
by_name true s t name text other r is h = let same : other ≡ text = cc in subst (λ x. Swaps s x t r) same h
by_name false s t name text other r is h = absurd (let x = is in cc)

pub swaps_to : (s t : RouterState) (c : Call) (text : List ℕ) (r : Reply) → swap_text c ≡ Some text → Answers s c t r → Swaps s text t r
unfolding WriteBy
swaps_to s t (call.Read name other) text r is h = absurd (let x = is in cc)
swaps_to s t (call.Write name other) text r is h = by_name (is_hotconfig name) s t name text other r is h
swaps_to s t (call.CheckRead name) text r is h = absurd (let x = is in cc)
swaps_to s t (call.CheckWrite name) text r is h = absurd (let x = is in cc)
swaps_to s t (call.Swap other) text r is h = let same : other ≡ text = cc in subst (λ x. Swaps s x t r) same h
swaps_to s t (call.Arrive device p) text r is h = absurd (let x = is in cc)
swaps_to s t (call.Poll device ps) text r is h = absurd (let x = is in cc)
swaps_to s t call.Round text r is h = absurd (let x = is in cc)
swaps_to s t (call.Transmit device) text r is h = absurd (let x = is in cc)

-- a successful swap took over
pub done : (s t : RouterState) (c : Call) (text : List ℕ) → swap_text c ≡ Some text → Answers s c t reply.Done → (new : RouterState) × IsOpened text new × (t ≡ taken new s)
unfolding TakesOver IsRefused
done s t c text is h = elim (either s text t reply.Done (swaps_to s t c text reply.Done is h)) [
  | inl (new, o, is, r) ↦ (new, o, is)
  | inr (f, g, is, r) ↦ absurd (let x = r in cc)
]

-- a refused swap changed nothing, and was refused for the first fault of its text
pub unchanged : (s t : RouterState) (c : Call) (text : List ℕ) (why : Refusal) → swap_text c ≡ Some text → Answers s c t (reply.Refused why)
    → (t ≡ s) × ((f : ConfigFault) × IsFirstFault text f × (why ≡ refusal.Config f))
unfolding TakesOver IsRefused
unchanged s t c text why asks h = elim (either s text t (reply.Refused why) (swaps_to s t c text (reply.Refused why) asks h)) [
  | inl (new, o, is, r) ↦ absurd (let x = r in cc)
  | inr (f, g, is, r) ↦ (is, (f, g, (let x = r in cc)))
]

-- ---- a call has at most one reply

Same : RouterState → RouterState → Reply → Reply → Type 0
Same t u q r = (t ≡ u) × (q ≡ r)

swaps_once : (s t u : RouterState) (text : List ℕ) (q r : Reply) → Swaps s text t q → Swaps s text u r → (t ≡ u) × (q ≡ r)
unfolding TakesOver IsRefused
swaps_once s t u text q r h k = elim (either s text t q h) [
  | inl (new, o, is, q_is) ↦ elim (either s text u r k) [
    | inl (other, p, u_is, r_is) ↦ (is ∙ ap (λ n. taken n s) (opened_once text new other o p) ∙ sym u_is, q_is ∙ sym r_is)
    | inr (f, g, u_is, r_is) ↦ absurd (opened_has_no_fault text new f o g)
  ]
  | inr (f, g, is, q_is) ↦ elim (either s text u r k) [
    | inl (other, p, u_is, r_is) ↦ absurd (opened_has_no_fault text other f p g)
    | inr (e, i, u_is, r_is) ↦ (is ∙ sym u_is, q_is ∙ ap (λ x. reply.Refused (refusal.Config x)) (first_fault_once text f e g i) ∙ sym r_is)
  ]
]

equal : (s t u : RouterState) (q r x : Reply) → (t ≡ s) × (q ≡ x) → (u ≡ s) × (r ≡ x) → (t ≡ u) × (q ≡ r)
equal s t u q r x h k = (h.0 ∙ sym k.0, h.1 ∙ sym k.1)

paired : (t u : RouterState) (q r : Reply) (p : RouterState × Reply) → p ≡ (t, q) → p ≡ (u, r) → (t ≡ u) × (q ≡ r)
paired t u q r p h k =
    let both = sym h ∙ k in
    let left : t ≡ u = ap (λ (x : RouterState × Reply). x.0) both in
    let right : q ≡ r = ap (λ (x : RouterState × Reply). x.1) both in
    (left, right)

writes_once : (b : Bool) (s t u : RouterState) (name text : List ℕ) (q r : Reply) → WriteBy b s name text t q → WriteBy b s name text u r → (t ≡ u) × (q ≡ r)
unfolding WriteBy
writes_once true s t u name text q r h k = swaps_once s t u text q r h k
writes_once false s t u name text q r h k = paired t u q r (write s name text) h k

pub one_answer : (s t u : RouterState) (c : Call) (q r : Reply) → Answers s c t q → Answers s c u r → (t ≡ u) × (q ≡ r)
unfolding WriteBy
one_answer s t u (call.Read name text) q r h k = (h.0 ∙ sym k.0, h.1 ∙ sym k.1)
one_answer s t u (call.Write name text) q r h k = writes_once (is_hotconfig name) s t u name text q r h k
one_answer s t u (call.CheckRead name) q r h k = (h.0 ∙ sym k.0, h.1 ∙ sym k.1)
one_answer s t u (call.CheckWrite name) q r h k = (h.0 ∙ sym k.0, h.1 ∙ sym k.1)
one_answer s t u (call.Swap text) q r h k = swaps_once s t u text q r h k
one_answer s t u (call.Arrive device p) q r h k = paired t u q r (entered s device (p ∷ [])) h k
one_answer s t u (call.Poll device ps) q r h k = paired t u q r (entered s device ps) h k
one_answer s t u call.Round q r h k = paired t u q r (worked s) h k
one_answer s t u (call.Transmit device) q r h k = paired t u q r (sent s device) h k
