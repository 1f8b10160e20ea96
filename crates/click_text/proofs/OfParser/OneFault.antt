-- A list of tokens with an ending has at most one first fault.
use Rattle.std.proofs.Common.{◌≡◌, ℕ, List, [], ◌∷◌, ◌++◌, Option, Some, None, refl, sym, ◌∙◌, arith, append_assoc}
use Rattle.std.proofs.lemmas.List.{append-nil}
use Rattle.std.proofs.lemmas.Bool.Decides.{nat_tests}
use Rattle.click_text.specs.declared.syntax.Token.{Token}
use Rattle.click_text.specs.declared.syntax.FaultKind.TheVariants as kind
use Rattle.click_text.specs.declared.syntax.TextFault.{TextFault}
use Rattle.click_text.specs.declared.syntax.Ending.{Ending}
use Rattle.click_text.specs.declared.syntax.Ending.TheVariants as ending
use Rattle.click_text.specs.Grammar.{Tree, IsText, BeginsText, NestsWithin, Brace, Opens, Closes, Neither, brace, HasRoom, braces_after}
use Rattle.click_text.specs.Faults.{IsFaultAmong, unexpected, too_deep, unfinished, no_piece, spanned_fault, span_of}
use Rattle.click_text.specs.kept.EndFault.{end_fault}
use Rattle.click_text.specs.kept.ParserStates.{State, step, finish, bind, run, advance, open_after_brace, open_after, Outcome, Accepted, Refused, Deep, accepted, outcome}
use Rattle.click_text.proofs.OfParser.GrammarRuns.{runs_to}
use Rattle.click_text.proofs.OfParser.GrammarEquality.{initial, begins_text, ends_text, begins_none}

-- the number of open braces after these tokens
depth_past : ℕ → List Token → ℕ
depth_past n [] = n
depth_past n (x ∷ front) = depth_past (braces_after (brace x) n) front

room_after : (b : Brace) (n : ℕ) → HasRoom b n → open_after_brace b n ≡ Some (braces_after b n)
room_after Opens n h = grind (arith, nat_tests)
room_after Closes n h = refl
room_after Neither n h = refl

room_taken : (b : Brace) (n m : ℕ) → open_after_brace b n ≡ Some m → HasRoom b n
room_taken Opens n m e = grind (arith, nat_tests)
room_taken Closes n m e = tt
room_taken Neither n m e = tt

nests_append : (front rest : List Token) (n : ℕ) → NestsWithin n front → NestsWithin (depth_past n front) rest → NestsWithin n (front ++ rest)
unfolding depth_past
nests_append [] rest n h k = k
nests_append (x ∷ front) rest n h k = (h.0, nests_append front rest (braces_after (brace x) n) h.1 k)

-- if there is a state that goes on, it takes these tokens
taken_first : (o : Option State) (front : List Token) (s' : State) → bind o (λ s. advance s front) ≡ Some s' → (r : State) × (o ≡ Some r) × (advance r front ≡ Some s')
taken_first None front s' e = cc
taken_first (Some r) front s' e = (r, refl, e)

advance_append : (front more : List Token) (s s' : State) → advance s front ≡ Some s' → advance s (front ++ more) ≡ advance s' more
unfolding advance
advance_append [] more s s' e = let q : s ≡ s' = cc in rw q refl
advance_append (x ∷ front) more s s' e =
    let r = taken_first (step s x) front s' e in
    rw (r.1) (advance_append front more r.0 s' r.2)

-- the outcome depends only on what follows the tokens that were taken
outcome_append : (front more : List Token) (n : ℕ) (s s' : State) → advance s front ≡ Some s' → NestsWithin n front → outcome n s (front ++ more) ≡ outcome (depth_past n front) s' more
unfolding advance outcome depth_past
outcome_append [] more n s s' e h = let q : s ≡ s' = cc in rw q refl
outcome_append (x ∷ front) more n s s' e h =
    let r = taken_first (step s x) front s' e in
    rw (r.1, room_after (brace x) n h.0) (outcome_append front more (braces_after (brace x) n) r.0 s' r.2 h.1)

-- a state that runs to a tree takes each prefix of the tokens
run_first : (o : Option State) (front more : List Token) (t : Tree) → ((r : State) → run r (front ++ more) ≡ Some t → (s' : State) × (advance r front ≡ Some s')) → bind o (λ s. run s (front ++ more)) ≡ Some t → (s' : State) × (bind o (λ s. advance s front) ≡ Some s')
run_first None front more t ih e = cc
run_first (Some r) front more t ih e = ih r e

run_taken : (front more : List Token) (s : State) (t : Tree) → run s (front ++ more) ≡ Some t → (s' : State) × (advance s front ≡ Some s')
unfolding run advance
run_taken [] more s t e = (s, refl)
run_taken (x ∷ front) more s t e = run_first (step s x) front more t (λ r. run_taken front more r t) e

begun_taken : (front : List Token) → BeginsText front → (s : State) × (advance initial front ≡ Some s)
begun_taken front (more, t, r) = run_taken front more initial t (runs_to r)

begins_less : (front : List Token) (tok : Token) → BeginsText (front ++ tok ∷ []) → BeginsText front
begins_less front tok (more, t, r) = (tok ∷ more, t, rw append_assoc at r)

-- the fault of an outcome
abbrev fault_of : ℕ → Ending → Outcome → TextFault
fault_of n e (Accepted t) = end_fault n e
fault_of n e (Refused []) = end_fault n e
fault_of n e (Refused (tok ∷ more)) = spanned_fault kind.Unexpected (span_of tok)
fault_of n e (Deep []) = end_fault n e
fault_of n e (Deep (tok ∷ more)) = spanned_fault kind.TooDeep (span_of tok)

-- a token that continues no text is refused
not_taken : (front : List Token) (tok : Token) (s : State) → advance initial front ≡ Some s → (BeginsText (front ++ tok ∷ []) → ⊥) → (o : Option State) → step s tok ≡ o → step s tok ≡ None
unfolding advance
not_taken front tok s a k None e = e
not_taken front tok s a k (Some r) e =
    let w : advance s (tok ∷ []) ≡ Some r = rw e refl in
    absurd (k (begins_text (front ++ tok ∷ []) r (advance_append front (tok ∷ []) initial s a ∙ w)))

-- a token that continues a text is taken
some_taken : (front : List Token) (tok : Token) (s : State) → advance initial front ≡ Some s → BeginsText (front ++ tok ∷ []) → (o : Option State) → step s tok ≡ o → (r : State) × (step s tok ≡ Some r)
some_taken front tok s a k None e = absurd (begins_none front tok s a e k)
some_taken front tok s a k (Some r) e = (r, e)

-- a brace that is one too many has no room
no_room : (front : List Token) (tok : Token) → NestsWithin 0 front → (NestsWithin 0 (front ++ tok ∷ []) → ⊥) → (m : Option ℕ) → open_after (depth_past 0 front) tok ≡ m → open_after (depth_past 0 front) tok ≡ None
no_room front tok h k None e = e
no_room front tok h k (Some m) e = absurd (k (nests_append front (tok ∷ []) 0 h (room_taken (brace tok) (depth_past 0 front) m e, tt)))

unfinished_at : (ts : List Token) (s : State) → advance initial ts ≡ Some s → ((t : Tree) → IsText ts t → ⊥) → (o : Option Tree) → finish s ≡ o → finish s ≡ None
unfinished_at ts s a k None e = e
unfinished_at ts s a k (Some t) e = absurd (k t (ends_text ts s t a e))

end_of : (n : ℕ) (e : Ending) (o : Option Tree) → end_fault n e ≡ fault_of n e (accepted o)
end_of n e None = refl
end_of n e (Some t) = refl

fault_is : (n : ℕ) (ts : List Token) (e : Ending) (f : TextFault) → IsFaultAmong n ts e f → f ≡ fault_of n e (outcome 0 initial ts)
unfolding outcome
fault_is n ts e f (unexpected n' front more tok e' b h k) =
    let a = begun_taken front b in
    let w = not_taken front tok a.0 a.1 k (step a.0 tok) refl in
    rw (outcome_append front (tok ∷ more) 0 initial a.0 a.1 h, w) refl
fault_is n ts e f (too_deep n' front more tok e' b h k) =
    let a = begun_taken front (begins_less front tok b) in
    let w = some_taken front tok a.0 a.1 b (step a.0 tok) refl in
    let v = no_room front tok h k (open_after (depth_past 0 front) tok) refl in
    rw (outcome_append front (tok ∷ more) 0 initial a.0 a.1 h, w.1, v) refl
fault_is n ts e f (unfinished n' ts' b h k) =
    let a = begun_taken ts b in
    let w = unfinished_at ts a.0 a.1 k (finish a.0) refl in
    let o : outcome 0 initial (ts ++ []) ≡ outcome (depth_past 0 ts) a.0 [] = outcome_append ts [] 0 initial a.0 a.1 h in
    rw (rw append-nil at o, w) refl
fault_is n ts e f (no_piece n' ts' f' b h) =
    let a = begun_taken ts b in
    let o : outcome 0 initial (ts ++ []) ≡ outcome (depth_past 0 ts) a.0 [] = outcome_append ts [] 0 initial a.0 a.1 h in
    rw (rw append-nil at o) (end_of n (ending.Stuck f) (finish a.0))

-- a list of tokens with an ending has at most one first fault
pub one_fault : (n : ℕ) (ts : List Token) (e : Ending) (f g : TextFault) → IsFaultAmong n ts e f → IsFaultAmong n ts e g → f ≡ g
one_fault n ts e f g a b = fault_is n ts e f a ∙ sym (fault_is n ts e g b)
