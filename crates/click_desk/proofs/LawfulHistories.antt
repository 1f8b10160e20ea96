-- Installed configurations are lawful, and refused swaps leave no trace.
use Rattle.std.proofs.Common.{◌≡◌, ℕ, Option, Some, None, List, [], ◌∷◌, ◌++◌, sym, refl, ◌∙◌, subst}
use Rattle.click_router.specs.State.{RouterState}
use Rattle.click_router.specs.Opened.{IsOpened}
use Rattle.click_router.specs.One.{Answers, swap_text}
use Rattle.click_router.specs.declared.call.Call.{Call}
use Rattle.click_router.specs.declared.call.Refusal.{Refusal}
use Rattle.click_router.specs.declared.call.Reply.{Reply}
use Rattle.click_router.specs.declared.call.Reply.TheVariants as reply
use Rattle.click_router.specs.InOrder.{IsInOrder}
use Rattle.click_router.proofs.OfCalls.RouterOrder.{opened-in-order, answered-in-order}
use Rattle.click_router.proofs.OfOpenings.OneOpening.{opened_once}
use Rattle.click_router.proofs.OfCalls.OneOutcome.{done, unchanged, one_answer}
use Rattle.click_desk.specs.declared.entry.Entry.{Entry}
use Rattle.click_desk.specs.History.{Replays, Legal, asked, installed, swaps, installs, IsLawfulText, EachLawful}

-- The configuration of a text that opens is lawful.
opened_lawful : (text : List ℕ) (s : RouterState) → IsOpened text s → IsLawfulText text
opened_lawful text s o = record {
  config = o.config;
  spells = o.spells;
  flat = s.flat;
  is_flat = o.opens.is_flat;
  states = o.opens.begins.states;
  fresh = o.opens.begins.fresh;
  lawful = o.opens.begins.lawful;
}

both : (xs ys : List (List ℕ)) → EachLawful xs → EachLawful ys → EachLawful (xs ++ ys)
both [] ys h k = k
both (x ∷ xs) ys h k = (h.0, both xs ys h.1 k)

asked_lawful : (s t : RouterState) (c : Call) (o : Option (List ℕ)) → swap_text c ≡ o → Answers s c t reply.Done → EachLawful (asked o)
asked_lawful s t c (Some text) is a = let d = done s t c text is a in (opened_lawful text d.0 d.1, tt)
asked_lawful s t c None is a = tt

call_lawful : (s t : RouterState) (c : Call) (r : Reply) → Answers s c t r → EachLawful (installed c r)
call_lawful s t c reply.Done a = asked_lawful s t c (swap_text c) refl a
call_lawful s t c _ a = tt

replayed : (s : RouterState) (es : List Entry) (last : RouterState) → Replays s es last → EachLawful (swaps es)
replayed s [] last h = tt
replayed s (e ∷ es) last h = both (installed e.call e.reply) (swaps es) (call_lawful s h.0 e.call e.reply h.1) (replayed h.0 es last h.2)

pub each_lawful : (text : List ℕ) (history : List Entry) (state : RouterState) → Legal text history state → EachLawful (installs text history)
each_lawful text history state h = (opened_lawful text h.0 h.1, replayed h.0 history state h.2)

-- A history replays to the same state without a refused swap.
without : (s : RouterState) (before : List Entry) (e : Entry) (after : List Entry) (swapped : List ℕ) (why : Refusal) (last : RouterState)
    → swap_text e.call ≡ Some swapped → e.reply ≡ reply.Refused why → Replays s (before ++ e ∷ after) last → Replays s (before ++ after) last
without s [] e after swapped why last asks is h =
    let same = (unchanged s h.0 e.call swapped why asks (subst (λ r. Answers s e.call h.0 r) is h.1)).0 in
    subst (λ t. Replays t after last) same h.2
without s (x ∷ before) e after swapped why last asks is h = (h.0, h.1, without h.0 before e after swapped why last asks is h.2)

pub no_trace : (text swapped : List ℕ) (before after : List Entry) (e : Entry) (why : Refusal) (state : RouterState)
    → swap_text e.call ≡ Some swapped → e.reply ≡ reply.Refused why → Legal text (before ++ e ∷ after) state → Legal text (before ++ after) state
no_trace text swapped before after e why state asks is h = (h.0, h.1, without h.0 before e after swapped why state asks is h.2)

-- A history replays to one state only.
ends_once : (r s : RouterState) (es : List Entry) (t u : RouterState) → r ≡ s → Replays r es t → Replays s es u → t ≡ u
ends_once r s [] t u is h k = sym h ∙ (is ∙ k)
ends_once r s (e ∷ es) t u is h k =
    let same = (one_answer s h.0 k.0 e.call e.reply e.reply (subst (λ x. Answers x e.call h.0 e.reply) is h.1) k.1).0 in
    ends_once h.0 k.0 es t u same h.2 k.2

pub one_state : (text : List ℕ) (history : List Entry) (s t : RouterState) → Legal text history s → Legal text history t → s ≡ t
one_state text history s t h k = ends_once h.0 k.0 history s t (opened_once text h.0 k.0 h.1 k.1) h.2 k.2

-- Replaying a history keeps the router's state sound.
replayed-in-order : (s : RouterState) (es : List Entry) (last : RouterState) → IsInOrder s → Replays s es last → IsInOrder last
replayed-in-order s [] last o h = subst IsInOrder h o
replayed-in-order s (e ∷ es) last o h = replayed-in-order h.0 es last (answered-in-order s h.0 e.call e.reply o h.1) h.2

pub ends-in-order : (text : List ℕ) (history : List Entry) (state : RouterState) → Legal text history state → IsInOrder state
ends-in-order text history state h = replayed-in-order h.0 history state (opened-in-order text h.0 h.1) h.2
