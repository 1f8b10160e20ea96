-- Packets that are sent one after another.
use Rattle.std.proofs.Common.{◌≡◌, ℕ, ◌+◌, ◌<◌, ◌≤◌, Bool, true, false, List, [], ◌∷◌, ◌++◌, length, map, refl, sym, ap, subst, ◌∙◌, append-nil, append_assoc, length-append, arith}
use Rattle.std.proofs.lemmas.List.{map-append}
use Rattle.std.proofs.lemmas.List.Elements.{All-nil, All-append}
use Rattle.click_packet.specs.Packet.{Packet}
use Rattle.click_router.specs.declared.call.Call.{Call}
use Rattle.click_router.specs.declared.call.Reply.{Reply}
use Rattle.click_links.specs.declared.turns.Tally.{Tally}
use Rattle.click_links.specs.Ends.{Attempt, attempt}
use Rattle.click_links.specs.Turns.{gave, transmit_call, tallied, tally_after, tally_of, GivesNone, Sends, Breaks, SendsSo, SendsUntil}

tally_one : (n : Tally) (ts : List Attempt) (device : List ℕ) (packet : Packet) (sent : Bool) → tally_after n (ts ++ attempt device packet sent ∷ []) ≡ tallied (tally_after n ts) sent
tally_one n [] device packet sent = refl
tally_one n (t ∷ ts) device packet sent = tally_one (tallied n t.sent) ts device packet sent

-- Nothing is sent.
pub sends_none : (device : List ℕ) (calls : List (Call × Reply)) (before : List Attempt) → Sends device calls calls before before []
sends_none device calls before = record { made = sym (append-nil calls); sent = sym (append-nil before); own = All-nil (λ (t : Attempt). t.device ≡ device) }

pub so_none : (device : List ℕ) (calls : List (Call × Reply)) (before : List Attempt) → SendsSo device calls calls before before 0 (record { sent = 0; lost = 0 })
so_none device calls before = record { tries = []; sends = sends_none device calls before; many = refl; counts = refl }

-- Two consecutive sequences of sending packets are one.
pub sends_then : (device : List ℕ) (calls calls2 calls3 : List (Call × Reply)) (a b c ts us : List Attempt) → Sends device calls calls2 a b ts → Sends device calls2 calls3 b c us → Sends device calls calls3 a c (ts ++ us)
sends_then device calls calls2 calls3 a b c ts us f g = record {
  made = g.made ∙ (ap (λ l. l ++ map gave us) f.made ∙ (append_assoc calls (map gave ts) (map gave us) ∙ ap (λ l. calls ++ l) (sym (map-append gave ts us))));
  sent = g.sent ∙ (ap (λ l. l ++ us) f.sent ∙ append_assoc a ts us);
  own = All-append (λ (t : Attempt). t.device ≡ device) ts us f.own g.own;
}

-- One more packet is sent.
pub so_more : (device : List ℕ) (calls calls2 calls3 : List (Call × Reply)) (a b c : List Attempt) (n : ℕ) (tally : Tally) (packet : Packet) (sent : Bool)
    → SendsSo device calls calls2 a b n tally → Sends device calls2 calls3 b c (attempt device packet sent ∷ []) → SendsSo device calls calls3 a c (n + 1) (tallied tally sent)
so_more device calls calls2 calls3 a b c n tally packet sent f g = record {
  tries = f.tries ++ attempt device packet sent ∷ [];
  sends = sends_then device calls calls2 calls3 a b c f.tries (attempt device packet sent ∷ []) f.sends g;
  many = length-append f.tries (attempt device packet sent ∷ []) ∙ ap (λ k. k + 1) f.many;
  counts = ap (λ k. tallied k sent) f.counts ∙ sym (tally_one (record { sent = 0; lost = 0 }) f.tries device packet sent);
}

tallied_small : (tally : Tally) (sent : Bool) → ((tallied tally sent).sent ≤ tally.sent + 1) × ((tallied tally sent).lost ≤ tally.lost + 1)
tallied_small tally true = (omega arith, omega arith)
tallied_small tally false = (omega arith, omega arith)

went_small : (tally : Tally) (ts : List Attempt) → ((tally_after tally ts).sent ≤ tally.sent + length ts) × ((tally_after tally ts).lost ≤ tally.lost + length ts)
went_small tally [] = (omega arith, omega arith)
went_small tally (t ∷ ts) = let h = went_small (tallied tally t.sent) ts in let s = tallied_small tally t.sent in (omega (arith, h.0, s.0), omega (arith, h.1, s.1))

at_most : (a n m : ℕ) → a ≤ 0 + n → n ≡ m → a ≤ m
at_most a n m h e = omega (arith, h, e)

-- The numbers of sent and of lost packets are at most the number of attempts.
pub so_small : (device : List ℕ) (calls calls2 : List (Call × Reply)) (a b : List Attempt) (n : ℕ) (tally : Tally) → SendsSo device calls calls2 a b n tally → (tally.sent ≤ n) × (tally.lost ≤ n)
so_small device calls calls2 a b n tally f =
    let h = went_small (record { sent = 0; lost = 0 }) f.tries in (
      subst (λ (k : Tally). k.sent ≤ n) (sym f.counts) (at_most (tally_of f.tries).sent (length f.tries) n h.0 f.many),
      subst (λ (k : Tally). k.lost ≤ n) (sym f.counts) (at_most (tally_of f.tries).lost (length f.tries) n h.1 f.many),
    )

-- A device turn that stops early after it has sent some packets.
pub breaks_after : (device : List ℕ) (calls calls2 calls3 : List (Call × Reply)) (a b c : List Attempt) (n : ℕ) (tally : Tally)
    → SendsSo device calls calls2 a b n tally → n < 256 → calls3 ≡ calls2 → c ≡ b → Breaks device calls calls3 a c
breaks_after device calls calls2 calls3 a b c n tally f below same still = record {
  tries = f.tries;
  sends = record { made = same ∙ f.sends.made; sent = still ∙ f.sends.sent; own = f.sends.own };
  within = omega (arith, f.many, below);
}

-- The last Transmit returned no packet.
pub until_none : (device : List ℕ) (calls calls2 calls3 : List (Call × Reply)) (a b c : List Attempt) (n : ℕ) (tally : Tally) (r : Reply)
    → SendsSo device calls calls2 a b n tally → n < 256 → GivesNone r → calls3 ≡ calls2 ++ transmit_call device r ∷ [] → c ≡ b → SendsUntil device calls calls3 a c tally false
until_none device calls calls2 calls3 a b c n tally r f below none made same = record {
  tries = f.tries;
  last = r ∷ [];
  made = made ∙ ap (λ l. l ++ transmit_call device r ∷ []) f.sends.made;
  sent = same ∙ f.sends.sent;
  own = f.sends.own;
  ends = (omega (arith, f.many, below), r, refl, none);
  counts = f.counts;
}

-- The maximum number of packets was sent.
pub until_full : (device : List ℕ) (calls calls2 : List (Call × Reply)) (a b : List Attempt) (tally : Tally) → SendsSo device calls calls2 a b 256 tally → SendsUntil device calls calls2 a b tally true
until_full device calls calls2 a b tally f = record {
  tries = f.tries;
  last = [];
  made = f.sends.made ∙ sym (append-nil (calls ++ map gave f.tries));
  sent = f.sends.sent;
  own = f.sends.own;
  ends = (f.many, refl);
  counts = f.counts;
}
