-- Device turns and Rounds, one after another.
use Rattle.std.proofs.Common.{◌≡◌, ◌↔◌, ℕ, zero, suc, ◌+◌, ◌<◌, Bool, true, false, IsTrue, List, [], ◌∷◌, ◌++◌, length, map, take, get_or, refl, sym, ap, subst, ◌∙◌, append-nil, append_assoc, length-append, arith}
use Rattle.std.specs.List.{All, Contains}
use Rattle.std.proofs.lemmas.List.{map-append, map_more, length-map, get_or-map}
use Rattle.std.proofs.lemmas.List.Elements.{All-nil, All-cons, All-push}
use Rattle.click_rings.specs.Feeds.{FeedName}
use Rattle.click_router.specs.declared.call.Call.{Call}
use Rattle.click_router.specs.declared.call.Reply.{Reply}
use Rattle.click_links.specs.declared.device.Device.{Device}
use Rattle.click_links.specs.declared.turns.Turn.{Turn}
use Rattle.click_links.specs.Ends.{Attempt}
use Rattle.click_links.specs.Turns.{IsTurn, names_of}
use Rattle.click_links.specs.Forwarding.{IsForwarding, Forwards, packets_given}
use Rattle.click_links.specs.Sweeps.{EachTurn, IsWork, IsNoWork, count_worked, Rounds, RoundsUntil, round}
use Rattle.click_links.proofs.Gifts.{forwards_then, forwards_same}

-- The name of one of these devices is one of their names.
pub name_at : (devices : List Device) (k : ℕ) (d : Device) → k < length devices → d ≡ get_or devices k d → Contains (names_of devices) d.name
name_at devices k d below is =
    subst (λ (x : Device). Contains (names_of devices) x.name) (sym is)
    (k, omega (arith, below, length-map devices (λ (x : Device). x.name)), get_or-map (λ (x : Device). x.name) devices k d (get_or devices k d).name below)

-- No turn was made.
pub each_none : (feeds : List FeedName) (calls : List (Call × Reply)) (a : List Attempt) (ts : List Turn) → ts ≡ [] → EachTurn [] feeds calls calls a a ts
each_none feeds calls a ts none = subst (λ (l : List Turn). EachTurn [] feeds calls calls a a l) (sym none) (refl, refl)

-- The turn of one more device.
pub each_more : (ds : List (List ℕ)) (d : List ℕ) (feeds : List FeedName) (calls calls2 calls3 : List (Call × Reply)) (a b c : List Attempt) (ts : List Turn) (t : Turn)
    → EachTurn ds feeds calls calls2 a b ts → IsTurn d feeds calls2 calls3 b c t → EachTurn (ds ++ d ∷ []) feeds calls calls3 a c (ts ++ t ∷ [])
each_more [] d feeds calls calls2 calls3 a b c [] t (same, still) turn =
    (calls3, c, subst (λ (l : List (Call × Reply)). IsTurn d feeds l calls3 a c t) same (subst (λ (l : List Attempt). IsTurn d feeds calls2 calls3 l c t) still turn), (refl, refl))
each_more [] d feeds calls calls2 calls3 a b c (u ∷ us) t h turn = absurd h
each_more (e ∷ es) d feeds calls calls2 calls3 a b c [] t h turn = absurd h
each_more (e ∷ es) d feeds calls calls2 calls3 a b c (u ∷ us) t (mid, sent, first, rest) turn =
    (mid, sent, first, each_more es d feeds mid calls2 calls3 sent b c us t rest turn)

-- The turn of the next device in the list, at a seat with the same feeds.
pub each_next : (devices : List Device) (k : ℕ) (d : Device) (feeds feeds2 : List FeedName) (calls calls2 calls3 : List (Call × Reply)) (a b c : List Attempt) (ts ts2 : List Turn) (t : Turn)
    → k < length devices → d ≡ get_or devices k d → feeds2 ≡ feeds → ts2 ≡ ts ++ t ∷ [] → EachTurn (names_of (take k devices)) feeds calls calls2 a b ts → IsTurn d.name feeds2 calls2 calls3 b c t
    → EachTurn (names_of (take (k + 1) devices)) feeds calls calls3 a c ts2
each_next devices k d feeds feeds2 calls calls2 calls3 a b c ts ts2 t below is same more each turn =
    subst (λ (l : List Turn). EachTurn (names_of (take (k + 1) devices)) feeds calls calls3 a c l) (sym more)
    (subst (λ (l : List (List ℕ)). EachTurn l feeds calls calls3 a c (ts ++ t ∷ [])) (sym (map_more (λ (x : Device). x.name) devices k d below))
    (each_more (names_of (take k devices)) (get_or devices k d).name feeds calls calls2 calls3 a b c ts t each
    (subst (λ (x : Device). IsTurn x.name feeds calls2 calls3 b c t) is (subst (λ (l : List FeedName). IsTurn d.name l calls2 calls3 b c t) same turn))))

no_more : (n : ℕ) → (0 < n → ⊥) → n ≡ 0
no_more zero h = refl
no_more (suc n) h = absurd (h (omega arith))

-- A Round that reports work found work.
pub work_of : (worked : Bool) (r : Reply) → worked ≡ true → (IsTrue worked ↔ (0 < count_worked r)) → IsWork r
work_of worked r is h = h.0 is

pub no_work_of : (worked : Bool) (r : Reply) → worked ≡ false → (IsTrue worked ↔ (0 < count_worked r)) → IsNoWork r
no_work_of worked r is h = no_more (count_worked r) (λ some. let e : worked ≡ true = h.1 some in absurd cc)

-- No Round was made.
pub rounds_none : (calls : List (Call × Reply)) → Rounds calls calls 0
rounds_none calls = record { worked = []; made = sym (append-nil calls); each = All-nil IsWork; many = refl }

-- One more Round found work.
pub rounds_more : (calls calls2 calls3 : List (Call × Reply)) (n : ℕ) (r : Reply) → Rounds calls calls2 n → calls3 ≡ calls2 ++ round r ∷ [] → IsWork r → Rounds calls calls3 (n + 1)
rounds_more calls calls2 calls3 n r f made work = record {
  worked = f.worked ++ r ∷ [];
  made = made ∙ (ap (λ l. l ++ round r ∷ []) f.made ∙ (append_assoc calls (map round f.worked) (round r ∷ []) ∙ ap (λ l. calls ++ l) (sym (map-append round f.worked (r ∷ [])))));
  each = All-push IsWork f.worked r f.each work;
  many = length-append f.worked (r ∷ []) ∙ ap (λ k. k + 1) f.many;
}

-- The last Round found no work.
pub rounds_end : (calls calls2 calls3 : List (Call × Reply)) (n : ℕ) (r : Reply) → Rounds calls calls2 n → calls3 ≡ calls2 ++ round r ∷ [] → IsNoWork r → n < 16 → RoundsUntil calls calls3 n false
rounds_end calls calls2 calls3 n r f made none below = record {
  worked = f.worked;
  last = r ∷ [];
  made = made ∙ ap (λ l. l ++ round r ∷ []) f.made;
  each = f.each;
  many = f.many;
  ends = (below, r, refl, none);
}

-- The maximum number of Rounds was made.
pub rounds_full : (calls calls2 : List (Call × Reply)) → Rounds calls calls2 16 → RoundsUntil calls calls2 16 true
rounds_full calls calls2 f = record {
  worked = f.worked;
  last = [];
  made = f.made ∙ sym (append-nil (calls ++ map round f.worked));
  each = f.each;
  many = f.many;
  ends = (refl, refl);
}

own_rounds : (devices : List (List ℕ)) (rs : List Reply) → All (λ (m : Call × Reply). IsForwarding devices m.0) (map round rs)
own_rounds devices [] = All-nil (λ (m : Call × Reply). IsForwarding devices m.0)
own_rounds devices (r ∷ rs) = All-cons (λ (m : Call × Reply). IsForwarding devices m.0) (round r) (map round rs) tt (own_rounds devices rs)

gifts_rounds : (rs : List Reply) → packets_given (map round rs) ≡ []
gifts_rounds [] = refl
gifts_rounds (r ∷ rs) = gifts_rounds rs

rounds_alone : (devices : List (List ℕ)) (rs : List Reply) (calls calls2 : List (Call × Reply)) (a : List Attempt) → calls2 ≡ calls ++ map round rs → Forwards devices calls calls2 a a
rounds_alone devices rs calls calls2 a made = record {
  made = map round rs;
  tries = [];
  grown = made;
  sent = sym (append-nil a);
  own = own_rounds devices rs;
  each = gifts_rounds rs;
}

-- Rounds send nothing.
pub rounds_forward : (devices : List (List ℕ)) (calls calls2 calls3 : List (Call × Reply)) (n : ℕ) (a b c : List Attempt) → Forwards devices calls calls2 a b → Rounds calls2 calls3 n → c ≡ b → Forwards devices calls calls3 a c
rounds_forward devices calls calls2 calls3 n a b c f r still =
    forwards_then devices calls calls2 calls3 a b c f (forwards_same devices calls2 calls3 calls3 b b c (rounds_alone devices r.worked calls2 calls3 b r.made) refl still)

pub until_forward : (devices : List (List ℕ)) (calls calls2 calls3 : List (Call × Reply)) (n : ℕ) (more : Bool) (a b : List Attempt) → Forwards devices calls calls2 a b → RoundsUntil calls2 calls3 n more → Forwards devices calls calls3 a b
until_forward devices calls calls2 calls3 n more a b f r =
    forwards_then devices calls calls2 calls3 a b b f
    (forwards_then devices calls2 (calls2 ++ map round r.worked) calls3 b b b
    (rounds_alone devices r.worked calls2 (calls2 ++ map round r.worked) b refl)
    (rounds_alone devices r.last (calls2 ++ map round r.worked) calls3 b r.made))
