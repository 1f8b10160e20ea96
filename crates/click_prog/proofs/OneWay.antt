-- Lemmas on what packets and records lead to: exactly one list, and exactly one router.
use Rattle.std.proofs.Common.{◌≡◌, ℕ, List, [], ◌∷◌, ◌++◌, Option, Some, None, inl, inr, refl, sym, ap, subst, ◌∙◌, arith}
use Rattle.click_packet.specs.Packet.{Packet}
use Rattle.click_capture.specs.Captures.{Record}
use Rattle.click_router.specs.One.{Answers}
use Rattle.click_router.specs.State.{RouterState}
use Rattle.click_router.specs.declared.call.Call.TheVariants as call
use Rattle.click_router.specs.declared.call.Reply.{Reply}
use Rattle.click_router.specs.declared.call.Reply.TheVariants as reply
use Rattle.click_router.proofs.OfCalls.OneOutcome.{one_answer}
use Rattle.click_prog.specs.Passages.{Asked, Enters, Gave, Leads, packet_of}
use Rattle.click_prog.specs.Carrying.{at_time, Gives, AllGive}

abbrev packet_in : Reply → Option Packet
packet_in (reply.Sent packet) = packet
packet_in _ = None

asked-state : (sink : List ℕ) (s t u : RouterState) (a b : Option Packet) → Asked sink s a t → Asked sink s b u → t ≡ u
asked-state sink s t u a b h k = (one_answer s t u (call.Transmit sink) (reply.Sent a) (reply.Sent b) h k).0

asked-packet : (sink : List ℕ) (s t u : RouterState) (a b : Option Packet) → Asked sink s a t → Asked sink s b u → a ≡ b
asked-packet sink s t u a b h k = ap (λ (r : Reply). packet_in r) (one_answer s t u (call.Transmit sink) (reply.Sent a) (reply.Sent b) h k).1

enters-one : (source : List ℕ) (p : Packet) (s t u : RouterState) → Enters source p s t → Enters source p s u → t ≡ u
enters-one source p s t u h k =
    let between : h.between ≡ k.between = (one_answer s h.between k.between (call.Arrive source p) (reply.Entered 1) (reply.Entered 1) h.arrives k.arrives).0 in
    let works : Answers k.between call.Round t (reply.Worked h.worked) = subst (λ (x : RouterState). Answers x call.Round t (reply.Worked h.worked)) between h.works in
    (one_answer k.between t u call.Round (reply.Worked h.worked) (reply.Worked k.worked) works k.works).0

none_some : {P : Type 0} (p : Packet) → None ≡ Some p → P
none_some p e = cc

some-one : (p q : Packet) → Some p ≡ Some q → p ≡ q
some-one p q e = cc

gave-one : (sink : List ℕ) (s m n t u : RouterState) (ps qs : List Packet) → Gave sink s ps m → Asked sink m None t → Gave sink s qs n → Asked sink n None u → (ps ≡ qs) × (t ≡ u)
gave-one sink s m n t u [] [] g a h b =
    (refl, asked-state sink s t u None None (subst (λ (x : RouterState). Asked sink x None t) g a) (subst (λ (x : RouterState). Asked sink x None u) h b))
gave-one sink s m n t u [] (q ∷ qs) g a h b = none_some q (asked-packet sink s t h.0 None (Some q) (subst (λ (x : RouterState). Asked sink x None t) g a) h.1)
gave-one sink s m n t u (p ∷ ps) [] g a h b = none_some p (asked-packet sink s u g.0 None (Some p) (subst (λ (x : RouterState). Asked sink x None u) h b) g.1)
gave-one sink s m n t u (p ∷ ps) (q ∷ qs) g a h b =
    let next : h.0 ≡ g.0 = asked-state sink s h.0 g.0 (Some q) (Some p) h.1 g.1 in
    let first : p ≡ q = some-one p q (asked-packet sink s g.0 h.0 (Some p) (Some q) g.1 h.1) in
    let rest = gave-one sink g.0 m n t u ps qs g.2 a (subst (λ (x : RouterState). Gave sink x qs n) next h.2) b in
    (ap (λ (x : Packet). x ∷ ps) first ∙ ap (λ (l : List Packet). q ∷ l) rest.0, rest.1)

pub leads-one : (source sink : List ℕ) (p : Packet) (s t u : RouterState) (ps qs : List Packet) → Leads source sink p s ps t → Leads source sink p s qs u → (ps ≡ qs) × (t ≡ u)
leads-one source sink p s t u ps qs h k =
    let entered : k.entered ≡ h.entered = enters-one source p s k.entered h.entered k.enters h.enters in
    gave-one sink h.entered h.emptied k.emptied t u ps qs h.gave h.none (subst (λ (x : RouterState). Gave sink x qs k.emptied) entered k.gave) k.none

gives-one : (source sink : List ℕ) (r : Record) (s t u : RouterState) (ps qs : List Packet) → Gives source sink r s ps t → Gives source sink r s qs u → (ps ≡ qs) × (t ≡ u)
gives-one source sink r s t u ps qs (inl h) (inl k) = (h.1 ∙ sym k.1, h.2 ∙ sym k.2)
gives-one source sink r s t u ps qs (inl h) (inr k) = absurd (omega (arith, h.0, k.0))
gives-one source sink r s t u ps qs (inr h) (inl k) = absurd (omega (arith, h.0, k.0))
gives-one source sink r s t u ps qs (inr h) (inr k) = leads-one source sink (packet_of r.bytes) s t u ps qs h.1 k.1

pub all-one : (source sink : List ℕ) (rs : List Record) (s t u : RouterState) (xs ys : List Record) → AllGive source sink rs s xs t → AllGive source sink rs s ys u → (xs ≡ ys) × (t ≡ u)
all-one source sink [] s t u xs ys h k = (h.0 ∙ sym k.0, h.1 ∙ sym k.1)
all-one source sink (r ∷ rs) s t u xs ys h k =
    let one = gives-one source sink r s h.1 k.1 h.0 k.0 h.3 k.3 in
    let rest = all-one source sink rs h.1 t u h.2 k.2 h.4 (subst (λ (x : RouterState). AllGive source sink rs x k.2 u) (sym one.1) k.4) in
    (h.5 ∙ ap (λ (l : List Packet). at_time r.time l ++ h.2) one.0 ∙ ap (λ (l : List Record). at_time r.time k.0 ++ l) rest.0 ∙ sym k.5, rest.1)
