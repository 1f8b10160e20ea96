-- What a forwarder did, as equations only.
use Rattle.std.proofs.Common.{◌≡◌, ℕ, zero, suc, Bool, true, false, ◌&&◌, leb, List, [], ◌∷◌, ◌++◌, length, drop, if◌then◌else◌, refl, sym, ap, subst, ◌∙◌, arith}
use Rattle.std.specs.List.{All, Contains}
use Rattle.std.specs.Str.{bytes_eq}
use Rattle.std.proofs.lemmas.Bool.{and_parts, leb-true, le-leb}
use Rattle.std.proofs.lemmas.List.{drop_at}
use Rattle.std.proofs.lemmas.List.Elements.{All-nil, All-cons, All-head, All-tail}
use Rattle.std.proofs.lemmas.Slice.Eq.{bytes_eq-Decides}
use Rattle.click_router.specs.declared.call.Call.{Call}
use Rattle.click_router.specs.declared.call.Call.TheVariants as call
use Rattle.click_router.specs.declared.call.Reply.{Reply}
use Rattle.click_links.specs.declared.device.Device.{Device}
use Rattle.click_links.specs.Ends.{Attempt}
use Rattle.click_links.specs.Turns.{names_of}
use Rattle.click_links.specs.Forwarding.{packets_given, sendings, IsForwarding, Forwards}
use Rattle.click_links.specs.kept.Forwarded.{is_among, is_forwarding, are_forwarding, HasForwarded}
use Rattle.click_links.proofs.Gifts.{forwards_none, forwards_same, forwards_then}

among_at : (d device : List ℕ) (ds : List (List ℕ)) (b : Bool) → bytes_eq d device ≡ b → (is_among ds device ≡ true → Contains ds device) → (if b then true else is_among ds device) ≡ true → Contains (d ∷ ds) device
among_at d device ds true is rest h = (0, omega arith, (bytes_eq-Decides d device).0 is)
among_at d device ds false is rest h = let r = rest h in (suc r.0, omega (arith, r.1), r.2)

from_among : (ds : List (List ℕ)) (device : List ℕ) → is_among ds device ≡ true → Contains ds device
from_among [] device h = absurd cc
from_among (d ∷ ds) device h = among_at d device ds (bytes_eq d device) refl (from_among ds device) h

or_true : (a b : Bool) → b ≡ true → (if a then true else b) ≡ true
or_true true b h = refl
or_true false b h = h

to_among : (ds : List (List ℕ)) (device : List ℕ) → Contains ds device → is_among ds device ≡ true
to_among [] device (k, below, is) = absurd (omega (arith, below))
to_among (d ∷ ds) device (zero, below, is) = ap (λ b. if b then true else is_among ds device) ((bytes_eq-Decides d device).1 is)
to_among (d ∷ ds) device (suc k, below, is) = or_true (bytes_eq d device) (is_among ds device) (to_among ds device (k, omega (arith, below), is))

both : (a b : Bool) → a ≡ true → b ≡ true → (a && b) ≡ true
both true b h k = k
both false b h k = absurd cc

from_forwarding : (ds : List (List ℕ)) (c : Call) → is_forwarding ds c ≡ true → IsForwarding ds c
from_forwarding ds (call.Poll from taken) h = let p = and_parts (is_among ds from) (leb (length taken) 32) h in (from_among ds from p.0, leb-true (length taken) 32 p.1)
from_forwarding ds call.Round h = tt
from_forwarding ds (call.Transmit from) h = from_among ds from h
from_forwarding ds _ h = absurd cc

to_forwarding : (ds : List (List ℕ)) (c : Call) → IsForwarding ds c → is_forwarding ds c ≡ true
to_forwarding ds (call.Poll from taken) h = both (is_among ds from) (leb (length taken) 32) (to_among ds from h.0) (le-leb (length taken) 32 h.1)
to_forwarding ds call.Round h = refl
to_forwarding ds (call.Transmit from) h = to_among ds from h
to_forwarding ds _ h = absurd h

module _ (ds : List (List ℕ)) where
  abbrev OfThese : Call × Reply → Type 0
  OfThese m = IsForwarding ds m.0

  all_from : (ms : List (Call × Reply)) → are_forwarding ds ms ≡ true → All OfThese ms
  all_from [] h = All-nil OfThese
  all_from (m ∷ ms) h = let p = and_parts (is_forwarding ds m.0) (are_forwarding ds ms) h in All-cons OfThese m ms (from_forwarding ds m.0 p.0) (all_from ms p.1)

  all_to : (ms : List (Call × Reply)) → All OfThese ms → are_forwarding ds ms ≡ true
  all_to [] h = refl
  all_to (m ∷ ms) h = both (is_forwarding ds m.0) (are_forwarding ds ms) (to_forwarding ds m.0 (All-head OfThese m ms h)) (all_to ms (All-tail OfThese m ms h))

  pub known : (calls calls2 : List (Call × Reply)) (a b : List Attempt) → Forwards ds calls calls2 a b → HasForwarded ds calls calls2 a b
  known calls calls2 a b f =
      let m : drop (length calls) calls2 ≡ f.made = ap (drop (length calls)) f.grown ∙ drop_at calls f.made (length calls) refl in
      let t : drop (length a) b ≡ f.tries = ap (drop (length a)) f.sent ∙ drop_at a f.tries (length a) refl in (
        f.grown ∙ ap (λ l. calls ++ l) (sym m),
        f.sent ∙ ap (λ l. a ++ l) (sym t),
        ap (are_forwarding ds) m ∙ all_to f.made f.own,
        ap packets_given m ∙ (f.each ∙ ap sendings (sym t)),
      )

  pub forwards_of : (calls calls2 : List (Call × Reply)) (a b : List Attempt) → HasForwarded ds calls calls2 a b → Forwards ds calls calls2 a b
  forwards_of calls calls2 a b h = record {
    made = drop (length calls) calls2;
    tries = drop (length a) b;
    grown = h.0;
    sent = h.1;
    own = all_from (drop (length calls) calls2) h.2;
    each = h.3;
  }

  -- The forwarder did more.
  pub known_more : (calls calls2 calls3 : List (Call × Reply)) (a b c : List Attempt) → HasForwarded ds calls calls2 a b → Forwards ds calls2 calls3 b c → HasForwarded ds calls calls3 a c
  known_more calls calls2 calls3 a b c h f = known calls calls3 a c (forwards_then ds calls calls2 calls3 a b c (forwards_of calls calls2 a b h) f)

-- The forwarder did nothing.
pub known_none : (ds : List (List ℕ)) (calls calls2 : List (Call × Reply)) (a b : List Attempt) → calls2 ≡ calls → b ≡ a → HasForwarded ds calls calls2 a b
known_none ds calls calls2 a b same still = known ds calls calls2 a b (forwards_same ds calls calls calls2 a a b (forwards_none ds calls a) same still)

-- The forwarder made one more sweep, over the given devices.
pub known_sweep : (devices : List Device) (ds : List (List ℕ)) (calls calls2 calls3 : List (Call × Reply)) (a b c : List Attempt) → names_of devices ≡ ds
    → HasForwarded ds calls calls2 a b → Forwards (names_of devices) calls2 calls3 b c → HasForwarded ds calls calls3 a c
known_sweep devices ds calls calls2 calls3 a b c is h f =
    known_more ds calls calls2 calls3 a b c h (subst (λ (l : List (List ℕ)). Forwards l calls2 calls3 b c) is f)
