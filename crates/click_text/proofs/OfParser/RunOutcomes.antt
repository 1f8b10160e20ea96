-- What the outcome of a run says in terms of the grammar.
use Rattle.std.proofs.Common.{◌≡◌, ℕ, ◌+◌, List, [], ◌∷◌, ◌++◌, Option, Some, None, Bool, true, false, refl, ◌∙◌, ap, arith, nat_lt, cond, append_assoc}
use Rattle.std.proofs.lemmas.List.{append-nil}
use borrow.Author.Tests.{ltb-true}
use Rattle.std.proofs.lemmas.Bool.Decides.{nat_tests}
use Rattle.click_text.specs.declared.syntax.Token.{Token}
use Rattle.click_text.specs.declared.syntax.FaultKind.TheVariants as kind
use Rattle.click_text.specs.declared.syntax.Ending.{Ending}
use Rattle.click_text.specs.declared.syntax.Ending.TheVariants as ending
use Rattle.click_text.specs.Grammar.{Tree, IsText, BeginsText, NestsWithin, most_open, Brace, Opens, Closes, Neither, brace, HasRoom, braces_after}
use Rattle.click_text.specs.Faults.{IsFaultAmong, unexpected, too_deep, unfinished, no_piece, fault, spanned_fault, span_of}
use Rattle.click_text.specs.kept.EndFault.{end_fault}
use Rattle.click_text.specs.kept.ParserStates.{State, step, finish, run, advance, open_after_brace, open_after, Outcome, Accepted, Refused, Deep, or_refused, or_deep, accepted, outcome}
use Rattle.click_text.proofs.OfParser.GrammarRuns.{runs_to}
use Rattle.click_text.proofs.OfParser.GrammarEquality.{initial, begins_text, ends_text, begins_none, ends_none, run_append}

-- the state does not take the next token, or the end
abbrev pub StuckAt : State → List Token → Type 0
StuckAt s [] = finish s ≡ None
StuckAt s (tok ∷ more) = step s tok ≡ None

abbrev pub EndsAs : ℕ → State → List Token → Outcome → Type 0
EndsAs n s ts (Accepted t) = (s' : State) × (advance s ts ≡ Some s') × (finish s' ≡ Some t) × NestsWithin n ts
EndsAs n s ts (Refused rest) = (front : List Token) × (s' : State) × (ts ≡ front ++ rest) × (advance s front ≡ Some s') × NestsWithin n front × StuckAt s' rest
EndsAs n s ts (Deep rest) = (front more : List Token) × (tok : Token) × (s' : State) × (rest ≡ tok ∷ more) × (ts ≡ front ++ tok ∷ more) × (advance s (front ++ tok ∷ []) ≡ Some s') × NestsWithin n front × (NestsWithin n (front ++ tok ∷ []) → ⊥)

room : (b : Bool) (n m : ℕ) → cond b (Some (n + 1)) None ≡ Some m → (b ≡ true) × (n + 1 ≡ m)
room true n m e = (refl, cc)
room false n m e = cc

no_room : (b : Bool) (n : ℕ) → cond b (Some (n + 1)) None ≡ None → b ≡ false
no_room true n e = cc
no_room false n e = refl

-- a token that opens no brace too many
has_room : (b : Brace) (n m : ℕ) → open_after_brace b n ≡ Some m → HasRoom b n × (braces_after b n ≡ m)
has_room Opens n m e = let r = room (nat_lt n most_open) n m e in (ltb-true n most_open r.0, r.1)
has_room Closes n m e = (tt, cc)
has_room Neither n m e = (tt, cc)

has_none : (b : Brace) (n : ℕ) → open_after_brace b n ≡ None → HasRoom b n → ⊥
has_none Opens n e h = let r : nat_lt n most_open ≡ false = no_room (nat_lt n most_open) n e in grind (arith, nat_tests)
has_none Closes n e h = cc
has_none Neither n e h = cc

nests_more : (n m : ℕ) (x : Token) (ts : List Token) → open_after n x ≡ Some m → NestsWithin m ts → NestsWithin n (x ∷ ts)
nests_more n m x ts e h = let r = has_room (brace x) n m e in (r.0, rw (r.1) h)

nests_less : (n m : ℕ) (x : Token) (ts : List Token) → open_after n x ≡ Some m → NestsWithin n (x ∷ ts) → NestsWithin m ts
nests_less n m x ts e h = let r = has_room (brace x) n m e in rw (r.1) at (h.1)

nests_none : (n : ℕ) (x : Token) → open_after n x ≡ None → NestsWithin n (x ∷ []) → ⊥
nests_none n x e h = has_none (brace x) n e h.0

nests_front : (front more : List Token) (n : ℕ) → NestsWithin n (front ++ more) → NestsWithin n front
nests_front [] more n h = tt
nests_front (x ∷ front) more n h = (h.0, nests_front front more (braces_after (brace x) n) h.1)

-- one token before the run
before : (n m : ℕ) (s s' : State) (x : Token) (ts : List Token) (o : Outcome) → step s x ≡ Some s' → open_after n x ≡ Some m → EndsAs m s' ts o → EndsAs n s (x ∷ ts) o
unfolding advance
before n m s s' x ts (Accepted t) e q (r, a, f, h) = (r, rw e a, f, nests_more n m x ts q h)
before n m s s' x ts (Refused rest) e q (front, r, w, a, h, k) = (x ∷ front, r, ap (λ (y : List Token). x ∷ y) w, rw e a, nests_more n m x front q h, k)
before n m s s' x ts (Deep rest) e q (front, more, tok, r, z, w, a, h, k) =
    (x ∷ front, more, tok, r, z, ap (λ (y : List Token). x ∷ y) w, rw e a, nests_more n m x front q h, λ g. k (nests_less n m x (front ++ tok ∷ []) q g))

turn : (n : ℕ) (s : State) (x : Token) (ts : List Token) → ((m : ℕ) (r : State) → EndsAs m r ts (outcome m r ts)) → (o : Option State) → step s x ≡ o → (m : Option ℕ) → open_after n x ≡ m → EndsAs n s (x ∷ ts) (or_refused o (x ∷ ts) (λ r. or_deep m (x ∷ ts) (λ k. outcome k r ts)))
unfolding advance
turn n s x ts ih None e m q = ([], s, refl, refl, tt, e)
turn n s x ts ih (Some r) e None q = ([], ts, x, r, refl, refl, rw e refl, tt, nests_none n x q)
turn n s x ts ih (Some r) e (Some m) q = before n m s r x ts (outcome m r ts) e q (ih m r)

last : (n : ℕ) (s : State) (o : Option Tree) → finish s ≡ o → EndsAs n s [] (accepted o)
unfolding advance
last n s None e = ([], s, refl, refl, tt, e)
last n s (Some t) e = (s, refl, e, tt)

pub ends_as : (ts : List Token) (n : ℕ) (s : State) → EndsAs n s ts (outcome n s ts)
unfolding outcome
ends_as [] n s = last n s (finish s) refl
ends_as (x ∷ ts) n s = turn n s x ts (ends_as ts) (step s x) refl (open_after n x) refl

-- the outcome of a run from the initial state

accepted_by : (ts : List Token) (t : Tree) → EndsAs 0 initial ts (Accepted t) → IsText ts t × NestsWithin 0 ts
accepted_by ts t (s, a, f, h) = (ends_text ts s t a f, h)

pub accepted_text : (ts : List Token) (t : Tree) → outcome 0 initial ts ≡ Accepted t → IsText ts t × NestsWithin 0 ts
accepted_text ts t e = accepted_by ts t (rw e at (ends_as ts 0 initial))

refused_by : (n : ℕ) (ts rest : List Token) (tok : Token) (end : Ending) → EndsAs 0 initial ts (Refused (tok ∷ rest)) → IsFaultAmong n ts end (spanned_fault kind.Unexpected (span_of tok))
refused_by n ts rest tok end (front, s, w, a, h, k) =
    rw w (unexpected n front rest tok end (begins_text front s a) h (begins_none front tok s a k))

pub refused_token : (n : ℕ) (ts rest : List Token) (tok : Token) (end : Ending) → outcome 0 initial ts ≡ Refused (tok ∷ rest) → IsFaultAmong n ts end (spanned_fault kind.Unexpected (span_of tok))
refused_token n ts rest tok end e = refused_by n ts rest tok end (rw e at (ends_as ts 0 initial))

refused_end_by : (n : ℕ) (ts : List Token) → EndsAs 0 initial ts (Refused []) → BeginsText ts × NestsWithin 0 ts × ((t : Tree) → IsText ts t → ⊥)
refused_end_by n ts (front, s, w, a, h, k) =
    let q : ts ≡ front = w ∙ append-nil front in
    rw q (begins_text front s a, h, ends_none front s a k)

pub refused_whole : (n : ℕ) (ts : List Token) → outcome 0 initial ts ≡ Refused [] → IsFaultAmong n ts ending.Whole (fault kind.Unexpected n n)
refused_whole n ts e = let r = refused_end_by n ts (rw e at (ends_as ts 0 initial)) in unfinished n ts r.0 r.1 r.2

pub refused_stuck : (n : ℕ) (ts : List Token) (f : _) → outcome 0 initial ts ≡ Refused [] → IsFaultAmong n ts (ending.Stuck f) f
refused_stuck n ts f e = let r = refused_end_by n ts (rw e at (ends_as ts 0 initial)) in no_piece n ts f r.0 r.1

pub accepted_stuck : (n : ℕ) (ts : List Token) (t : Tree) (f : _) → outcome 0 initial ts ≡ Accepted t → IsFaultAmong n ts (ending.Stuck f) f
accepted_stuck n ts t f e = let r = accepted_text ts t e in no_piece n ts f ([], t, rw append-nil r.0) r.1

deep_by : (n : ℕ) (ts rest : List Token) (tok : Token) (end : Ending) → EndsAs 0 initial ts (Deep (tok ∷ rest)) → IsFaultAmong n ts end (spanned_fault kind.TooDeep (span_of tok))
deep_by n ts rest tok end (front, more, x, s, z, w, a, h, k) =
    let q : x ≡ tok = cc in
    let v : IsFaultAmong n (front ++ x ∷ more) end (spanned_fault kind.TooDeep (span_of x)) = too_deep n front more x end (begins_text (front ++ x ∷ []) s a) h k in
    rw w (rw q (rw q at v))

pub deep_token : (n : ℕ) (ts rest : List Token) (tok : Token) (end : Ending) → outcome 0 initial ts ≡ Deep (tok ∷ rest) → IsFaultAmong n ts end (spanned_fault kind.TooDeep (span_of tok))
deep_token n ts rest tok end e = deep_by n ts rest tok end (rw e at (ends_as ts 0 initial))

only_by : (ts : List Token) (t : Tree) (o : Outcome) → EndsAs 0 initial ts o → IsText ts t → NestsWithin 0 ts → o ≡ Accepted t
unfolding run
only_by ts t (Accepted u) (s, a, f, h) r k =
    let v = run_append ts [] initial s a in
    let q : run initial (ts ++ []) ≡ Some t = rw append-nil (runs_to r) in
    let w : u ≡ t = cc in
    ap Accepted w
only_by ts t (Refused []) (front, s, w, a, h, k) r g =
    let q : ts ≡ front = w ∙ append-nil front in absurd (ends_none front s a k t (rw q at r))
only_by ts t (Refused (tok ∷ rest)) (front, s, w, a, h, k) r g =
    absurd (begins_none front tok s a k (rest, t, rw append_assoc (rw w at r)))
only_by ts t (Deep rest) (front, more, tok, s, z, w, a, h, k) r g =
    let q : NestsWithin 0 ((front ++ tok ∷ []) ++ more) = rw append_assoc (rw w at g) in
    absurd (k (nests_front (front ++ tok ∷ []) more 0 q))

-- a text of the grammar is accepted, with its tree
pub only_text : (ts : List Token) (t : Tree) → IsText ts t → NestsWithin 0 ts → outcome 0 initial ts ≡ Accepted t
only_text ts t r g = only_by ts t (outcome 0 initial ts) (ends_as ts 0 initial) r g

pub deep_none_by : (ts : List Token) → EndsAs 0 initial ts (Deep []) → ⊥
deep_none_by ts (front, more, x, s, z, w, a, h, k) = cc

pub deep_none : (ts : List Token) → outcome 0 initial ts ≡ Deep [] → ⊥
deep_none ts e = deep_none_by ts (rw e at (ends_as ts 0 initial))

pub refused_end : (n : ℕ) (ts : List Token) (end : Ending) → outcome 0 initial ts ≡ Refused [] → IsFaultAmong n ts end (end_fault n end)
refused_end n ts ending.Whole e = refused_whole n ts e
refused_end n ts (ending.Stuck f) e = refused_stuck n ts f e

-- a text of the grammar has no fault
pub no_fault : (n : ℕ) (ts : List Token) (f : _) (t : Tree) → IsFaultAmong n ts ending.Whole f → IsText ts t → NestsWithin 0 ts → ⊥
no_fault n ts f t (unexpected n' front more tok e b h k) r g = k (more, t, rw append_assoc r)
no_fault n ts f t (too_deep n' front more tok e b h k) r g = k (nests_front (front ++ tok ∷ []) more 0 (rw append_assoc g))
no_fault n ts f t (unfinished n' ts' b h k) r g = k t r

-- a text has at most one tree
pub one_tree : (ts : List Token) (t u : Tree) → IsText ts t → IsText ts u → t ≡ u
one_tree ts t u r q = let a = runs_to r in let b = runs_to q in cc
