-- The steps of the machine, in the form that the parser's proofs cite.
use Rattle.std.proofs.Common.{inl, inr, ◌≡◌, ℕ, ◌+◌, ◌-◌, ◌<◌, ◌≤◌, List, [], ◌∷◌, ◌++◌, length, drop, Some, None, refl, ◌∙◌, arith}
use Rattle.std.proofs.lemmas.Bool.Decides.{nat_tests}
use Rattle.click_text.specs.declared.syntax.Span.{Span}
use Rattle.click_text.specs.declared.syntax.Token.{Token}
use Rattle.click_text.specs.declared.syntax.Token.TheVariants as token
use Rattle.click_text.specs.declared.syntax.Statement.{Statement}
use Rattle.click_text.specs.declared.syntax.Body.{Body}
use Rattle.click_text.specs.declared.tokens.ParseStop.{ParseStop}
use Rattle.click_text.specs.declared.tokens.ParseStop.TheVariants as stop
use Rattle.click_text.specs.Grammar.{body}
use Rattle.click_text.specs.kept.ParserStates.{Place, inside, Use, start, State, between, statement_wanted, first_read, name_read, element_wanted, word_read, body_read, step, finish, open_after, Outcome, Refused, Deep, outcome, accepted, Stops, Lists}
use Rattle.click_text.proofs.OfParser.StateTokens.{IsElementclass, IsRequire, firsted_by, opening_by}

-- a token that is taken
pub taken : (n m : ℕ) (s s' : State) (tok : Token) (ts rest : List Token) → ts ≡ tok ∷ rest → step s tok ≡ Some s' → open_after n tok ≡ Some m → outcome n s ts ≡ outcome m s' rest
unfolding outcome
taken n m s s' tok ts rest e p q = rw (e, p, q) refl

-- a token that fits nowhere
pub refused : (n : ℕ) (s : State) (tok : Token) (ts rest : List Token) → ts ≡ tok ∷ rest → step s tok ≡ None → outcome n s ts ≡ Refused ts
unfolding outcome
refused n s tok ts rest e p = rw (e, p) refl

-- the end of the tokens
pub at_end : (n : ℕ) (s : State) (ts : List Token) → ts ≡ [] → outcome n s ts ≡ accepted (finish s)
unfolding outcome
at_end n s ts e = rw e refl

-- the end of the tokens, in a state that may not end
pub refused_at_end : (n : ℕ) (s : State) (ts : List Token) → ts ≡ [] → finish s ≡ None → outcome n s ts ≡ Refused ts
unfolding outcome
refused_at_end n s ts e p = rw (e, p) refl

-- two states that do the same with the next token, and with the end
pub same_step : (n : ℕ) (s s' : State) (tok : Token) (ts rest : List Token) → ts ≡ tok ∷ rest → step s tok ≡ step s' tok → outcome n s ts ≡ outcome n s' ts
unfolding outcome
same_step n s s' tok ts rest e p = rw (e, p) refl

pub same_end : (n : ℕ) (s s' : State) (ts : List Token) → ts ≡ [] → finish s ≡ finish s' → outcome n s ts ≡ outcome n s' ts
unfolding outcome
same_end n s s' ts e p = rw (e, p) refl

pub stops_from : (s : ParseStop) (before mid : Outcome) (rest : List Token) → before ≡ mid → Stops s mid rest → Stops s before rest
stops_from stop.Memory before mid rest e h = h
stops_from stop.Unexpected before mid rest e h = e ∙ h
stops_from stop.TooDeep before mid rest e h = e ∙ h

-- an opening brace that is one too many
pub too_deep : (n : ℕ) (s s' : State) (a : Span) (ts rest : List Token) → ts ≡ token.Open a ∷ rest → step s (token.Open a) ≡ Some s' → 32 ≤ n → outcome n s ts ≡ Deep ts
unfolding outcome
too_deep n s s' a ts rest e p h = let q : open_after n (token.Open a) ≡ None = grind (arith, nat_tests) in rw (e, p, q) refl

-- an opening brace within the limit
pub opened : (n : ℕ) (s s' : State) (a : Span) (ts rest : List Token) → ts ≡ token.Open a ∷ rest → step s (token.Open a) ≡ Some s' → n < 32 → outcome n s ts ≡ outcome (n + 1) s' rest
unfolding outcome
opened n s s' a ts rest e p h = let q : open_after n (token.Open a) ≡ Some (n + 1) = grind (arith, nat_tests) in rw (e, p, q) refl

-- the brace that closes a body
pub closed_at : (n : ℕ) (bs : List Body) (a b : Span) (fs : List Span) (u : Use) (ss : List Statement) (ts rest : List Token) → ts ≡ token.Close b ∷ rest → outcome (n + 1) (between bs (inside a fs u) ss) ts ≡ outcome n (body_read (bs ++ body a b fs ss ∷ []) u (length bs)) rest
unfolding outcome
closed_at n bs a b fs u ss ts rest e = let q : n + 1 - 1 ≡ n = omega arith in rw (e, q) refl

-- several names, if a statement must begin
pub lists : (n : ℕ) (bs : List Body) (p : Place) (ss : List Statement) (s : Span) (ts : List Token) → Lists ts s → outcome n (statement_wanted bs p ss) ts ≡ outcome n (name_read bs p ss (s ∷ [])) (drop 1 ts)
unfolding outcome
lists n bs p ss s ts (c, rest, e) = rw e refl

-- a first word without a comma after it
first_alone : (n : ℕ) (bs : List Body) (p : Place) (ss : List Statement) (s : Span) (ts : List Token) → (Lists (token.Word s ∷ ts) s → ⊥) → outcome n (first_read bs p ss s) ts ≡ outcome n (word_read bs (start p ss) s) ts
unfolding outcome
first_alone n bs p ss s [] h = refl
first_alone n bs p ss s (tok ∷ ts) h = elim (firsted_by bs p ss s tok) [ inl w ↦ absurd (h (w.0, ts, rw (w.1) refl)) | inr e ↦ rw e refl ]

word_first : (n : ℕ) (bs : List Body) (p : Place) (ss : List Statement) (s : Span) (ts : List Token) → (Lists (token.Word s ∷ ts) s → ⊥) → outcome n (statement_wanted bs p ss) (token.Word s ∷ ts) ≡ outcome n (element_wanted bs (start p ss)) (token.Word s ∷ ts)
unfolding outcome
word_first n bs p ss s ts h = first_alone n bs p ss s ts h

-- a statement that begins neither with several names nor with a keyword is a chain
pub chain_first : (n : ℕ) (bs : List Body) (p : Place) (ss : List Statement) (tok : Token) (ts rest : List Token) → ts ≡ tok ∷ rest → ((s : Span) → Lists ts s → ⊥) → (IsElementclass tok → ⊥) → (IsRequire tok → ⊥) → outcome n (statement_wanted bs p ss) ts ≡ outcome n (element_wanted bs (start p ss)) ts
chain_first n bs p ss tok ts rest e h k m = elim (opening_by bs p ss tok) [
  | inl w ↦ rw (e, w.1) (word_first n bs p ss w.0 rest (rw (e, w.1) at (h w.0)))
  | inr (inl w) ↦ absurd (k w)
  | inr (inr (inl w)) ↦ absurd (m w)
  | inr (inr (inr q)) ↦ same_step n _ _ tok ts rest e q
]
