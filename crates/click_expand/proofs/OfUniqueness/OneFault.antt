-- The configuration of a text has at most one fault, because its misuses are at tokens.
use Rattle.std.proofs.Common.{◌≡◌, inl, inr, ℕ, zero, suc, ◌<◌, List, [], ◌∷◌, ◌++◌, map, length, Option, Some, None, refl, sym, ap, subst, arith, Contains}
use Rattle.std.specs.List.{slice_get}
use Rattle.std.proofs.lemmas.List.Elements.{Contains-append_right, Contains-append_cases}
use Rattle.click_text.specs.declared.syntax.Span.{Span}
use Rattle.click_text.specs.declared.syntax.ClassReference.TheVariants as class
use Rattle.click_text.specs.declared.syntax.Head.{Head}
use Rattle.click_text.specs.declared.syntax.Head.TheVariants as head
use Rattle.click_text.specs.declared.syntax.Element.{Element}
use Rattle.click_text.specs.declared.syntax.Link.{Link}
use Rattle.click_text.specs.declared.syntax.Statement.{Statement}
use Rattle.click_text.specs.declared.syntax.Statement.TheVariants as statement
use Rattle.click_text.specs.declared.syntax.Body.{Body}
use Rattle.click_text.specs.declared.syntax.Config.{Config}
use Rattle.click_text.specs.Grammar.{element}
use Rattle.click_text.specs.Spelling.{Spells}
use Rattle.click_scopes.specs.Scopes.{Scope, whole, inside, body_statements, statements_of, body_formals, formals_of, statement_elements, Stands, nested}
use Rattle.click_scopes.specs.Elements.{Placed, place, head_class}
use Rattle.click_scopes.specs.Faults.{scope_placed, brace_by, brace_of, first_token, End, WrittenConnection, ScopeNames, scope_names, written_end, number_behind, number_after_all, written_connections_behind, written_connections_from, statement_connections, scope_connections, IsWrong, unknown_name, unknown_class, unknown_declared, unknown_original, named_twice, port_declared, formal_twice, wrong_parameters, no_output, no_input, output_as_source, input_as_target, input_gap, output_gap}
use Rattle.click_scopes.specs.kept.Nesting.{IsNested}
use Rattle.click_scopes.specs.kept.Standing.{Each}
use Rattle.click_expand.specs.Flat.{IsFlatFault}
use Rattle.click_scopes.specs.declared.fault.WrongUse.{WrongUse}
use Rattle.click_expand.specs.declared.fault.ExpandFault.{ExpandFault}
use Rattle.click_scopes.proofs.OfBodies.ScopeWalk.{inside-within}
use Rattle.click_scopes.proofs.OfBodies.OneBodyPlace.{contains-nil, contains-cons}
use Rattle.click_scopes.proofs.OfLists.ListParts.{contains-here, contains-behind, contains-map, contains-split}
use Rattle.click_scopes.proofs.OfBodies.EarlierBodies.{placed-there, element-body}
use Rattle.click_expand.proofs.OfUniqueness.OneFlatForm.{HasTokens, fault-once}
use Rattle.click_expand.proofs.OfUniqueness.TokenPlaces.{IsToken, token-once, OfHead, OfLinks, OfStatement, OfBody, StandsAtTokens, spelled-tokens}

each-has : {X : Type 0} (P : X → Type 0) (xs : List X) (x : X) → Each P xs → Contains xs x → P x
each-has P [] x h i = absurd (contains-nil x i)
each-has P (y ∷ xs) x h i = elim (contains-cons y xs x i) [ inl e ↦ subst P e h.0 | inr j ↦ each-has P xs x h.1 j ]

each-at : {X : Type 0} (P : X → Type 0) (xs : List X) (i : ℕ) (x : X) → Each P xs → slice_get xs i ≡ Some x → P x
each-at P [] i x h e = absurd (cc e)
each-at P (y ∷ xs) zero x h e = let f : y ≡ x = cc e in subst P f h.0
each-at P (y ∷ xs) (suc i) x h e = each-at P xs i x h.1 e

some-within : {X : Type 0} (xs : List X) (i : ℕ) → i < length xs → (x : X) × (slice_get xs i ≡ Some x)
some-within [] i l = absurd (omega (arith, l))
some-within (x ∷ xs) zero l = (x, refl)
some-within (x ∷ xs) (suc i) l = some-within xs i (omega (arith, l))

split-has : {X : Type 0} (front : List X) (x : X) (back all : List X) → all ≡ front ++ x ∷ back → Contains all x
split-has front x back all e = subst (λ xs. Contains xs x) (sym e) (Contains-append_right front (x ∷ back) x (contains-here x back))

module _ (P : Span → Type 0) where
  link-head : (ls : List Link) (e : Element) → OfLinks P ls → Contains (map (λ l. l.element) ls) e → OfHead P e.head
  link-head [] e h i = absurd (contains-nil e i)
  link-head (l ∷ ls) e h i =
      elim (contains-cons l.element (map (λ l. l.element) ls) e i) [
        | inl q ↦ subst (λ (x : Element). OfHead P x.head) q h.0
        | inr j ↦ link-head ls e h.1 j
      ]

  element-head : (st : Statement) (e : Element) → OfStatement P st → Contains (statement_elements st) e → OfHead P e.head
  element-head (statement.Chain k) e h i =
      elim (contains-cons k.first (map (λ l. l.element) k.links) e i) [
        | inl q ↦ subst (λ (x : Element). OfHead P x.head) q h.0
        | inr j ↦ link-head k.links e h.1 j
      ]
  element-head (statement.Declaration d) e h i =
      let r = contains-map (λ n. element (head.Declared n d.class) d.text) d.names e i in
      subst (λ (x : Element). OfHead P x.head) r.2 (each-has P d.names r.0 h.0 r.1, h.1)
  element-head (statement.Definition n b) e h i = absurd (contains-nil e i)
  element-head (statement.Synonym n d) e h i = absurd (contains-nil e i)
  element-head (statement.Requirement t) e h i = absurd (contains-nil e i)

  statements-by : (bodies : List Body) (b : ℕ) (o : Option Body) → Each (OfBody P) bodies → slice_get bodies b ≡ o → Each (OfStatement P) (body_statements o)
  statements-by bodies b None h e = tt
  statements-by bodies b (Some x) h e = (each-at (OfBody P) bodies b x h e).statements

  formals-by : (bodies : List Body) (b : ℕ) (o : Option Body) → Each (OfBody P) bodies → slice_get bodies b ≡ o → Each P (body_formals o)
  formals-by bodies b None h e = tt
  formals-by bodies b (Some x) h e = (each-at (OfBody P) bodies b x h e).formals

module _ (text : List ℕ) (c : Config) (nests : IsNested c) (h : StandsAtTokens text c) where
  abbrev P : Span → Type 0
  P s = IsToken text s

  scope-statements : (s : Scope) → Each (OfStatement P) (statements_of c s)
  scope-statements whole = h.statements
  scope-statements (inside b) = statements-by P c.bodies b (slice_get c.bodies b) h.bodies refl

  brace-token : (b : ℕ) (visible : List Statement) (enclosing : List Scope) → Stands c (inside b) visible enclosing → P (brace_of c b)
  brace-token b visible enclosing st =
      let x = some-within c.bodies b (inside-within c nests (inside b) visible enclosing st b refl) in
      subst (λ o. P (brace_by o)) (sym x.1) (each-at (OfBody P) c.bodies b x.0 h.bodies x.1).brace

  module _ (s : Scope) (visible : List Statement) (enclosing : List Scope) (stands : Stands c s visible enclosing) where
    first-by : (st : Statement) (e : Element) (k : Head) → Contains (statements_of c s) st → Contains (statement_elements st) e → e.head ≡ k → OfHead P k → P (first_token c k)
    first-by st e (head.Word w) i j q o = o
    first-by st e (head.Declared n d) i j q o = o.0
    first-by st e (head.Compound b) i j q o =
        let r = contains-split (statements_of c s) st i in
        let d = element-body b st e j (ap (λ k. head_class k) q) in
        brace-token b _ _ (nested s visible enclosing r.0 r.1 st b stands r.2 d)

    first-has : (st : Statement) (e : Element) → Contains (statements_of c s) st → Contains (statement_elements st) e → P (first_token c e.head)
    first-has st e i j = first-by st e e.head i j refl (element-head P st e (each-has (OfStatement P) (statements_of c s) st (scope-statements s) i) j)

    -- the head of a written element
    written-head : (front back : List Placed) (p : Placed) → scope_placed c s visible ≡ front ++ p ∷ back → OfHead P p.element.head
    written-head front back p e =
        let r = placed-there visible (statements_of c s) p (split-has front p back (scope_placed c s visible) e) in
        element-head P r.statement p.element
        (each-has (OfStatement P) (statements_of c s) r.statement (scope-statements s) (split-has r.before r.statement r.after (statements_of c s) r.splits)) r.there

    written-first : (front back : List Placed) (p : Placed) → scope_placed c s visible ≡ front ++ p ∷ back → P (first_token c p.element.head)
    written-first front back p e =
        let r = placed-there visible (statements_of c s) p (split-has front p back (scope_placed c s visible) e) in
        first-has r.statement p.element (split-has r.before r.statement r.after (statements_of c s) r.splits) r.there

  -- both ends of a written connection
  abbrev OfWrittenConnection : WrittenConnection → Type 0
  OfWrittenConnection j = P j.from.first × P j.to.first

  abbrev FirstsOf : List Element → Type 0
  FirstsOf es = (e : Element) → Contains es e → P (first_token c e.head)

  behind-written_connections : (names : ScopeNames) (visible : List Statement) (n : ℕ) (a : End) (ls : List Link) (j : WrittenConnection) → P a.first → FirstsOf (map (λ l. l.element) ls) →
      Contains (written_connections_behind c names visible n a ls) j → OfWrittenConnection j
  unfolding written_connections_behind
  behind-written_connections names visible n a [] j p f i = absurd (contains-nil j i)
  behind-written_connections names visible n a (l ∷ ls) j p f i =
      let q = f l.element (contains-here l.element (map (λ l. l.element) ls)) in
      elim (contains-cons _ _ j i) [
        | inl e ↦ subst OfWrittenConnection e (p, q)
        | inr k ↦ behind-written_connections names visible (number_behind c names n (place visible l.element)) (written_end c names n (place visible l.element)) ls j q
            (λ e m. f e (contains-behind l.element (map (λ l. l.element) ls) e m)) k
      ]

  of-statement : (names : ScopeNames) (visible : List Statement) (n : ℕ) (st : Statement) (j : WrittenConnection) → FirstsOf (statement_elements st) → Contains (statement_connections c names visible n st) j → OfWrittenConnection j
  of-statement names visible n (statement.Chain k) j f i =
      behind-written_connections names visible (number_behind c names n (place visible k.first)) (written_end c names n (place visible k.first)) k.links j
      (f k.first (contains-here k.first (map (λ l. l.element) k.links))) (λ e m. f e (contains-behind k.first (map (λ l. l.element) k.links) e m)) i
  of-statement names visible n (statement.Declaration d) j f i = absurd (contains-nil j i)
  of-statement names visible n (statement.Definition m b) j f i = absurd (contains-nil j i)
  of-statement names visible n (statement.Synonym m d) j f i = absurd (contains-nil j i)
  of-statement names visible n (statement.Requirement t) j f i = absurd (contains-nil j i)

  of-statements : (names : ScopeNames) (visible : List Statement) (n : ℕ) (ss : List Statement) (j : WrittenConnection) →
      ((st : Statement) → Contains ss st → FirstsOf (statement_elements st)) → Contains (written_connections_from c names visible n ss) j → OfWrittenConnection j
  unfolding written_connections_from
  of-statements names visible n [] j f i = absurd (contains-nil j i)
  of-statements names visible n (st ∷ ss) j f i =
      elim (Contains-append_cases (statement_connections c names visible n st) _ j i) [
        | inl k ↦ of-statement names visible n st j (f st (contains-here st ss)) k
        | inr k ↦ of-statements names (st ∷ visible) (number_after_all c names n (map (place visible) (statement_elements st))) ss j (λ x m. f x (contains-behind st ss x m)) k
      ]

  written_connection-tokens : (s : Scope) (visible : List Statement) (enclosing : List Scope) (j : WrittenConnection) → Stands c s visible enclosing → Contains (scope_connections c s visible) j → OfWrittenConnection j
  written_connection-tokens s visible enclosing j st i =
      of-statements (scope_names c s visible) visible 0 (statements_of c s) j (λ x m e k. first-has s visible enclosing st x e m k) i

  -- a misuse is at a token
  wrong-token : (k : WrongUse) (w : Span) → IsWrong c k w → P w
  wrong-token k w (unknown_name s v a f b p x st e m q t n) = subst (λ y. P (first_token c y)) q (written-first s v a st f b p e)
  wrong-token k w (unknown_class s v a f b p x string st e q t n) = subst (λ y. P (first_token c y)) q (written-first s v a st f b p e)
  wrong-token k w (unknown_declared s v a f b p n x st e q m) = let o : OfHead P (head.Declared n (class.Named x)) = subst (OfHead P) q (written-head s v a st f b p e) in o.1
  wrong-token k w (unknown_original s v a before after n x st e m) =
      (each-has (OfStatement P) (statements_of c s) (statement.Synonym n x) (scope-statements s) (split-has before (statement.Synonym n x) after (statements_of c s) e)).1
  wrong-token k w (named_twice s v a f b p st e m q t) = written-first s v a st f b p e
  wrong-token k w (port_declared d v a f b p n q st e i t) = subst (λ y. P (first_token c y)) i (written-first (inside d) v a st f b p e)
  wrong-token k w (formal_twice b v a front back x st e t) =
      each-has P (formals_of c (inside b)) x (formals-by P c.bodies b (slice_get c.bodies b) h.bodies refl) (split-has front x back (formals_of c (inside b)) e)
  wrong-token k w (wrong_parameters s v a f b p d xs st e m q r t) = written-first s v a st f b p e
  wrong-token k w (no_output s v a j b st i r m l) = (written_connection-tokens s v a j st i).0
  wrong-token k w (no_input s v a j b st i r m l) = (written_connection-tokens s v a j st i).1
  wrong-token k w (output_as_source s v a j st i r) = (written_connection-tokens s v a j st i).0
  wrong-token k w (input_as_target s v a j st i r) = (written_connection-tokens s v a j st i).1
  wrong-token k w (input_gap b v a p st l n) = brace-token b v a st
  wrong-token k w (output_gap b v a p st l n) = brace-token b v a st

-- the misuses of a configuration that a text spells are at tokens
pub spelled-has-tokens : (text : List ℕ) (c : Config) → IsNested c → Spells text c → HasTokens c
spelled-has-tokens text c nests spells k j s t h g e =
    let o = spelled-tokens text c spells in token-once text s t (wrong-token text c nests o k s h) (wrong-token text c nests o j t g) e

-- the configuration of a text has at most one fault
pub spelled-fault-once : (text : List ℕ) (c : Config) → IsNested c → Spells text c → (e d : ExpandFault) → IsFlatFault c e → IsFlatFault c d → e ≡ d
spelled-fault-once text c nests spells e d h k = fault-once c nests (spelled-has-tokens text c nests spells) e d h k
