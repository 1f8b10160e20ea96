-- Laws of histories.
use Rattle.std.proofs.Common.{◌≡◌, ◌≢◌, ◌<◌, ◌≤◌, ℕ, zero, suc, Bool, true, false, ◌==◌, if◌then◌else◌, List, [], ◌∷◌, ◌++◌, length, slice_index_or, ⊎_elim, sym, refl, ap, ◌∙◌, subst, append_assoc, arith, append-nil}
use Rattle.std.specs.List.{All}
use Rattle.std.proofs.lemmas.Bool.{cases_lt}
use Rattle.std.proofs.lemmas.List.Elements.{All-head, All-tail}
use Rattle.std.proofs.lemmas.Bool.Decides.{nat_tests}
use Rattle.click_router.specs.State.{RouterState}
use Rattle.click_router.specs.One.{Answers}
use Rattle.click_router.specs.declared.call.Call.{Call}
use Rattle.click_router.specs.declared.call.Reply.{Reply}
use Rattle.click_desk.specs.declared.entry.Entry.{Entry}
use Rattle.click_desk.specs.History.{entry, Replays, Legal, entries, StartsWith}

-- A replay can be extended by one entry, from the state where it ends.
pub replays_more : (s : RouterState) (es : List Entry) (mid : RouterState) (e : Entry) (last : RouterState) → Replays s es mid → Answers mid e.call last e.reply → Replays s (es ++ e ∷ []) last
replays_more s [] mid e last h is = (last, subst (λ t. Answers t e.call last e.reply) (sym h) is, refl)
replays_more s (x ∷ es) mid e last h is = (h.0, h.1, replays_more h.0 es mid e last h.2 is)

pub legal_more : (text : List ℕ) (es : List Entry) (mid : RouterState) (e : Entry) (last : RouterState) → Legal text es mid → Answers mid e.call last e.reply → Legal text (es ++ e ∷ []) last
legal_more text es mid e last h is = (h.0, h.1, replays_more h.0 es mid e last h.2 is)

pub starts_here : (h : List Entry) → StartsWith h h
starts_here h = ([], sym (append-nil h))

pub starts_empty : (h : List Entry) → StartsWith h []
starts_empty h = (h, refl)

pub starts_along : (a b c : List Entry) → StartsWith a b → StartsWith b c → StartsWith a c
starts_along a b c p q = (q.0 ++ p.0, p.1 ∙ ap (λ l. l ++ p.0) q.1 ∙ append_assoc c q.0 p.0)

pub entries_append : (a b : List Entry) (n : ℕ) → entries (a ++ b) n ≡ entries a n ++ entries b n
entries_append [] b n = refl
entries_append (e ∷ a) b n =
    elim (e.seat == n) as (λ (t : Bool). (if t then ((e.call, e.reply) ∷ entries (a ++ b) n) else entries (a ++ b) n) ≡ (if t then ((e.call, e.reply) ∷ entries a n) else entries a n) ++ entries b n) [
      | true ↦ ap (λ l. (e.call, e.reply) ∷ l) (entries_append a b n)
      | false ↦ entries_append a b n
    ]

-- An entry of a seat extends the calls of this seat, and not those of other seats.
pub entries_mine : (a : List Entry) (n : ℕ) (call : Call) (reply : Reply) → entries (a ++ entry n call reply ∷ []) n ≡ entries a n ++ (call, reply) ∷ []
entries_mine a n call reply =
    let same : (n == n) ≡ true = grind (arith, nat_tests) in
    let last : entries (entry n call reply ∷ []) n ≡ (call, reply) ∷ [] = rw same refl in
    entries_append a (entry n call reply ∷ []) n ∙ ap (λ l. entries a n ++ l) last

pub entries_other : (a : List Entry) (n : ℕ) (call : Call) (reply : Reply) (m : ℕ) → m ≢ n → entries (a ++ entry n call reply ∷ []) m ≡ entries a m
entries_other a n call reply m apart =
    let other : (n == m) ≡ false = grind (arith, nat_tests) in
    let last : entries (entry n call reply ∷ []) m ≡ [] = rw other refl in
    entries_append a (entry n call reply ∷ []) m ∙ (ap (λ l. entries a m ++ l) last ∙ append-nil (entries a m))

nil_cons : (x : Call × Reply) (xs : List (Call × Reply)) → x ∷ xs ≡ [] → ⊥
nil_cons x xs e = cc

-- If a seat has no entry in a history, it has none in the rest of it.
none_later : (e : Entry) (es : List Entry) (n : ℕ) → entries (e ∷ es) n ≡ [] → entries es n ≡ []
none_later e es n =
    elim (e.seat == n) as (λ (t : Bool). (if t then ((e.call, e.reply) ∷ entries es n) else entries es n) ≡ [] → entries es n ≡ []) [
      | true ↦ λ h. absurd (nil_cons (e.call, e.reply) (entries es n) h)
      | false ↦ λ h. h
    ]

bears : (es : List Entry) (k : ℕ) (d : Entry) → k < length es → entries es (slice_index_or es k d).seat ≡ [] → ⊥
bears [] k d below none = absurd (omega arith)
bears (e ∷ es) zero d below none =
    let same : (e.seat == e.seat) ≡ true = grind (arith, nat_tests) in
    let more : entries (e ∷ es) e.seat ≡ (e.call, e.reply) ∷ entries es e.seat = rw same refl in
    nil_cons (e.call, e.reply) (entries es e.seat) (sym more ∙ none)
bears (e ∷ es) (suc k) d below none = bears es k d (omega arith) (none_later e es (slice_index_or es k d).seat none)

-- If no number from n on has entries, each entry has a number below n.
pub all_below : (n : ℕ) (es : List Entry) → ((k : ℕ) → n ≤ k → entries es k ≡ []) → All (λ e. e.seat < n) es
all_below n es none k d below =
    let at = (slice_index_or es k d).seat in
    ⊎_elim (λ (h : at < n). h) (λ (h : n ≤ at). absurd (bears es k d below (none at h))) (cases_lt at n)

-- If each entry has the number 0, that seat has as many entries as the history.
pub own_length : (n : ℕ) (es : List Entry) → All (λ e. e.seat < 1) es → n ≡ 0 → length (entries es n) ≡ length es
own_length n [] all zeroth = refl
own_length n (e ∷ es) all zeroth =
    let small : e.seat < 1 = All-head (λ (x : Entry). x.seat < 1) e es all in
    let same : (e.seat == n) ≡ true = grind (arith, nat_tests) in
    let more : entries (e ∷ es) n ≡ (e.call, e.reply) ∷ entries es n = rw same refl in
    ap length more ∙ ap suc (own_length n es (All-tail (λ (x : Entry). x.seat < 1) e es all) zeroth)
