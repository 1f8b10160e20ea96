-- The machine accepts exactly the texts of the grammar, with their trees.
use Rattle.std.proofs.Common.{◌≡◌, List, [], ◌∷◌, ◌++◌, Option, Some, None, refl, sym, ap, subst, append_assoc}
use Rattle.std.proofs.lemmas.List.{append-nil}
use Rattle.click_text.specs.declared.syntax.Token.{Token}
use Rattle.click_text.specs.Grammar.{Tree, IsText, BeginsText}
use Rattle.click_text.specs.kept.ParserStates.{top, State, between, step, finish, bind, run, advance}
use Rattle.click_text.proofs.OfParser.GrammarRuns.{runs_to}
use Rattle.click_text.proofs.OfParser.Completions.{Completes, Leads, step_completes, finish_completes}
use Rattle.click_text.proofs.OfParser.OpenStates.{live}

leads : (o : Option State) (front more : List Token) (s' : State) (t : Tree) → ((s : State) → advance s front ≡ Some s' → Completes s' more t → Completes s (front ++ more) t) → bind o (λ s. advance s front) ≡ Some s' → Completes s' more t → Leads o (front ++ more) t
leads None front more s' t ih e h = cc
leads (Some s) front more s' t ih e h = ih s e h

advance_completes : (front more : List Token) (s s' : State) (t : Tree) → advance s front ≡ Some s' → Completes s' more t → Completes s (front ++ more) t
unfolding advance
advance_completes [] more s s' t e h = let q : s ≡ s' = cc in subst (λ (x : State). Completes x more t) (sym q) h
advance_completes (x ∷ front) more s s' t e h =
    step_completes s x (front ++ more) t (leads (step s x) front more s' t (λ r. advance_completes front more r s' t) e h)

abbrev pub initial : State
initial = between [] top []

is_text : (ts : List Token) (t : Tree) → Completes initial ts t → IsText ts t
is_text ts t (more, rest, bs, r, (e, q)) = rw q (rw e at r)

-- the tokens that the machine takes begin a text
pub begins_text : (front : List Token) (s : State) → advance initial front ≡ Some s → BeginsText front
begins_text front s e =
    let l = live s in
    (l.0, l.1, is_text (front ++ l.0) l.1 (advance_completes front l.0 initial s l.1 e l.2))

pub ends_text : (front : List Token) (s : State) (t : Tree) → advance initial front ≡ Some s → finish s ≡ Some t → IsText front t
ends_text front s t e f = rw append-nil at (is_text (front ++ []) t (advance_completes front [] initial s t e (finish_completes s t f)))

runs_on : (o : Option State) (front more : List Token) (s' : State) → ((s : State) → advance s front ≡ Some s' → run s (front ++ more) ≡ run s' more) → bind o (λ s. advance s front) ≡ Some s' → bind o (λ s. run s (front ++ more)) ≡ run s' more
runs_on None front more s' ih e = cc
runs_on (Some s) front more s' ih e = ih s e

pub run_append : (front more : List Token) (s s' : State) → advance s front ≡ Some s' → run s (front ++ more) ≡ run s' more
unfolding advance run
run_append [] more s s' e = let q : s ≡ s' = cc in ap (λ (x : State). run x more) q
run_append (x ∷ front) more s s' e = runs_on (step s x) front more s' (λ r. run_append front more r s') e

-- a token that the machine refuses continues no text
pub begins_none : (front : List Token) (tok : Token) (s : State) → advance initial front ≡ Some s → step s tok ≡ None → BeginsText (front ++ tok ∷ []) → ⊥
unfolding run
begins_none front tok s e n (more, t, r) =
    let q : run initial (front ++ tok ∷ more) ≡ Some t = runs_to (rw append_assoc at r) in
    let w : run s (tok ∷ more) ≡ None = rw n refl in
    let v = run_append front (tok ∷ more) initial s e in
    cc

-- if the machine refuses the end, the tokens are no text
pub ends_none : (front : List Token) (s : State) → advance initial front ≡ Some s → finish s ≡ None → (t : Tree) → IsText front t → ⊥
unfolding run
ends_none front s e n t r =
    let q : run initial (front ++ []) ≡ Some t = rw append-nil (runs_to r) in
    let v = run_append front [] initial s e in
    cc
