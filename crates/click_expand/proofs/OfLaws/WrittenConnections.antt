-- Without compounds the connections are the written ones of the whole text.
use Rattle.std.proofs.Common.{◌≡◌, inl, inr, ℕ, zero, suc, List, [], ◌∷◌, ◌++◌, map, Bool, true, false, cond, Option, Some, None, refl, sym, ap, ◌∙◌, subst, Contains}
use Rattle.std.specs.List.{slice_get}
use Rattle.std.proofs.lemmas.List.Elements.{Contains-append_right, Contains-append_cases}
use Rattle.click_text.specs.declared.syntax.Span.{Span}
use Rattle.click_text.specs.declared.syntax.Head.{Head}
use Rattle.click_text.specs.declared.syntax.Head.TheVariants as head
use Rattle.click_text.specs.declared.syntax.Link.{Link}
use Rattle.click_text.specs.declared.syntax.Statement.{Statement}
use Rattle.click_text.specs.declared.syntax.Statement.TheVariants as statement
use Rattle.click_text.specs.declared.syntax.Config.{Config}
use Rattle.click_text.specs.Spans.{bytes_at}
use Rattle.click_scopes.specs.Scopes.{Scope, whole, statement_elements}
use Rattle.click_scopes.specs.Classes.{compound}
use Rattle.click_scopes.specs.Elements.{Placed, place, Role, pseudo, refers, makes, role_of_head, ScopeElement}
use Rattle.click_base.specs.NameLists.{has_name}
use Rattle.click_scopes.specs.Faults.{End, WrittenConnection, ScopeNames, scope_names, written_end, number_behind, number_after_all, written_connections_behind, written_connections_from, statement_connections, elements_of_scope, scope_connections, first_token}
use Rattle.click_expand.specs.Parameters.{Bindings}
use Rattle.click_expand.specs.Instances.{PrimitiveElement, ArePrimitiveElements, no_elements, primitive_element, branch, LeadsTo, to_whole, to_inner}
use Rattle.click_expand.specs.Connections.{Node, output_of, input_of, begin_node, end_node, Leads, by_connection, further}
use Rattle.click_expand.specs.Flat.{IsFlat}
use Rattle.click_expand.specs.OneScope.{HasNoCompounds, IsConnectionAsWritten}
use Rattle.click_expand.specs.declared.flat.Connection.{Connection}
use Rattle.click_expand.specs.declared.flat.Flat.{Flat}
use Rattle.click_scopes.proofs.OfBodies.OneBodyPlace.{contains-nil, contains-cons}
use Rattle.click_scopes.proofs.OfLists.ListParts.{contains-here, contains-behind}

module _ (c : Config) where
  abbrev top : ScopeNames
  top = scope_names c whole []

  -- an end in the whole text is not a port of a body
  abbrev IsOwn : End → Type 0
  IsOwn e = e.role ≡ pseudo → ⊥

  abbrev AreOwn : WrittenConnection → Type 0
  AreOwn j = IsOwn j.from × IsOwn j.to

  role-own : (d : List (List ℕ)) (h : Head) (t : Option Span) → role_of_head c.text false d h t ≡ pseudo → ⊥
  role-own d (head.Word s) None e = by_test (has_name (bytes_at c.text s) d) e
    where
      by_test : (x : Bool) → cond x refers makes ≡ pseudo → ⊥
      by_test true f = cc f
      by_test false f = cc f
  role-own d (head.Word s) (Some t) e = cc e
  role-own d (head.Declared s g) t e = cc e
  role-own d (head.Compound b) t e = cc e

  end-own : (n : ℕ) (p : Placed) → IsOwn (written_end c top n p)
  end-own n p e = role-own top.declared p.element.head p.element.text e

  behind-own : (visible : List Statement) (n : ℕ) (a : End) (ls : List Link) (j : WrittenConnection) → IsOwn a → Contains (written_connections_behind c top visible n a ls) j → AreOwn j
  unfolding written_connections_behind
  behind-own visible n a [] j p i = absurd (contains-nil j i)
  behind-own visible n a (l ∷ ls) j p i =
      let q = end-own n (place visible l.element) in
      elim (contains-cons _ _ j i) [
        | inl e ↦ subst AreOwn e (p, q)
        | inr k ↦ behind-own visible (number_behind c top n (place visible l.element)) (written_end c top n (place visible l.element)) ls j q k
      ]

  statement-own : (visible : List Statement) (n : ℕ) (st : Statement) (j : WrittenConnection) → Contains (statement_connections c top visible n st) j → AreOwn j
  statement-own visible n (statement.Chain k) j i =
      behind-own visible (number_behind c top n (place visible k.first)) (written_end c top n (place visible k.first)) k.links j (end-own n (place visible k.first)) i
  statement-own visible n (statement.Declaration d) j i = absurd (contains-nil j i)
  statement-own visible n (statement.Definition m b) j i = absurd (contains-nil j i)
  statement-own visible n (statement.Synonym m d) j i = absurd (contains-nil j i)
  statement-own visible n (statement.Requirement t) j i = absurd (contains-nil j i)

  statements-own : (visible : List Statement) (n : ℕ) (ss : List Statement) (j : WrittenConnection) → Contains (written_connections_from c top visible n ss) j → AreOwn j
  unfolding written_connections_from
  statements-own visible n [] j i = absurd (contains-nil j i)
  statements-own visible n (st ∷ ss) j i =
      elim (Contains-append_cases (statement_connections c top visible n st) _ j i) [
        | inl k ↦ statement-own visible n st j k
        | inr k ↦ statements-own (st ∷ visible) (number_after_all c top n (map (place visible) (statement_elements st))) ss j k
      ]

  pub whole-roles : (j : WrittenConnection) → Contains (scope_connections c whole []) j → (j.from.role ≡ pseudo → ⊥) × (j.to.role ≡ pseudo → ⊥)
  whole-roles j i = statements-own [] 0 c.statements j i

  begins-own : (e : End) (r : Role) (port : ℕ) → (r ≡ pseudo → ⊥) → begin_node [] e r port ≡ output_of (e.name ∷ []) port
  begins-own e pseudo port h = absurd (h refl)
  begins-own e refers port h = refl
  begins-own e makes port h = refl

  ends-own : (e : End) (r : Role) (port : ℕ) → (r ≡ pseudo → ⊥) → end_node [] e r port ≡ input_of (e.name ∷ []) port
  ends-own e pseudo port h = absurd (h refl)
  ends-own e refers port h = refl
  ends-own e makes port h = refl

  -- none of these elements is a compound
  abbrev IsFree : List ScopeElement → Type 0
  IsFree ls = (l : ScopeElement) (b : ℕ) → Contains ls l → l.meaning ≡ Some (compound b) → ⊥

  free-tail : (l : ScopeElement) (ls : List ScopeElement) → IsFree (l ∷ ls) → IsFree ls
  free-tail l ls h k b i = h k b (contains-behind l ls k i)

  primitive_element-scope_element : {s : Scope} {enclosing : List Scope} {path : List (List ℕ)} {bindings : Bindings} {ls : List ScopeElement} {primitive_elements : List PrimitiveElement} {n : ℕ} → IsFree ls →
      ArePrimitiveElements c s enclosing path bindings ls primitive_elements n → (i : ℕ) (k : PrimitiveElement) → slice_get primitive_elements i ≡ Some k →
      (l : ScopeElement) × (slice_get ls i ≡ Some l) × (k.path ≡ path ++ l.name ∷ [])
  primitive_element-scope_element h (no_elements s enclosing path bindings) i k e = absurd (cc e)
  primitive_element-scope_element h (primitive_element s enclosing path bindings l ls class text primitive_elements n m r a) zero k e =
      let x : PrimitiveElement = record { path = path ++ l.name ∷ []; class = class; text = text; first = first_token c l.head } in
      let f : x ≡ k = cc e in
      (l, refl, ap (λ (y : PrimitiveElement). y.path) (sym f))
  primitive_element-scope_element h (primitive_element s enclosing path bindings l ls class text primitive_elements n m r a) (suc i) k e = primitive_element-scope_element (free-tail l ls h) a i k e
  primitive_element-scope_element h (branch s enclosing path bindings l ls b visible outer spans values inner primitive_elements m n d r v st a g) i k e = absurd (h l b (contains-here l ls) d)

  scope_element-primitive_element : {s : Scope} {enclosing : List Scope} {path : List (List ℕ)} {bindings : Bindings} {ls : List ScopeElement} {primitive_elements : List PrimitiveElement} {n : ℕ} → IsFree ls →
      ArePrimitiveElements c s enclosing path bindings ls primitive_elements n → (i : ℕ) (l : ScopeElement) → slice_get ls i ≡ Some l →
      (k : PrimitiveElement) × (slice_get primitive_elements i ≡ Some k) × (k.path ≡ path ++ l.name ∷ [])
  scope_element-primitive_element h (no_elements s enclosing path bindings) i l e = absurd (cc e)
  scope_element-primitive_element h (primitive_element s enclosing path bindings x ls class text primitive_elements n m r a) zero l e =
      let f : x ≡ l = cc e in (_, refl, ap (λ (y : ScopeElement). path ++ y.name ∷ []) f)
  scope_element-primitive_element h (primitive_element s enclosing path bindings x ls class text primitive_elements n m r a) (suc i) l e = scope_element-primitive_element (free-tail x ls h) a i l e
  scope_element-primitive_element h (branch s enclosing path bindings x ls b visible outer spans values inner primitive_elements m n d r v st a g) i l e = absurd (h x b (contains-here x ls) d)

  module _ (none : HasNoCompounds c) where
    pub only-whole : {path : List (List ℕ)} {s : Scope} {visible : List Statement} → LeadsTo c path s visible → (path ≡ []) × (s ≡ whole) × (visible ≡ [])
    only-whole to_whole = (refl, refl, refl)
    only-whole (to_inner path s visible before after l b inner outer t e m st) =
        let i = only-whole t in
        let f : elements_of_scope c whole [] ≡ before ++ l ∷ after = rw (i.1, i.2) at e in
        let g : Contains (elements_of_scope c whole []) l = subst (λ xs. Contains xs l) (sym f) (Contains-append_right before (l ∷ after) l (contains-here l after)) in
        absurd (none l b g m)

    -- the nodes of one connection of the whole text
    pub record IsWire (a b : Node) : Type 0 where
      pub written_connection : WrittenConnection
      pub there : Contains (scope_connections c whole []) written_connection
      pub begins : a ≡ output_of (written_connection.from.name ∷ []) written_connection.out_port
      pub ends : b ≡ input_of (written_connection.to.name ∷ []) written_connection.in_port

    wire-at : (path : List (List ℕ)) (j : WrittenConnection) → path ≡ [] → Contains (scope_connections c whole []) j →
        IsWire (begin_node path j.from j.from.role j.out_port) (end_node path j.to j.to.role j.in_port)
    wire-at path j e i =
        let r = whole-roles j i in
        record {
          written_connection = j;
          there = i;
          begins = rw e (begins-own j.from j.from.role j.out_port r.0);
          ends = rw e (ends-own j.to j.to.role j.in_port r.1);
        }

    pub leads-one : {a b : Node} → Leads c a b → IsWire a b
    leads-one (by_connection path s visible j t m) =
        let i = only-whole t in
        let n : Contains (scope_connections c whole []) j = rw (i.1, i.2) at m in
        wire-at path j i.0 n
    leads-one (further a b d l r) =
        let x = leads-one l in
        let y = leads-one r in
        let e = x.ends in
        let f = y.begins in
        absurd (cc (e, f))

    pub written-of : (f : Flat) (k : Connection) → IsFlat c f → Contains f.connections k → IsConnectionAsWritten c k
    written-of f k h i =
        let j = h.meant.connections.sound k i in
        let from = primitive_element-scope_element none h.meant.elements k.from j.from j.from_there in
        let to = primitive_element-scope_element none h.meant.elements k.to j.to j.to_there in
        let w = leads-one j.leads in
        let b = w.begins in
        let e = w.ends in
        let p = from.2 in
        let q = to.2 in
        record {
          written_connection = w.written_connection;
          there = w.there;
          from = (from.0, from.1, cc (b, p));
          out_port = cc b;
          to = (to.0, to.1, cc (e, q));
          in_port = cc e;
        }

    pub all-written : (f : Flat) (k : Connection) → IsFlat c f → IsConnectionAsWritten c k → Contains f.connections k
    all-written f k h w =
        let j = w.written_connection in
        let from = scope_element-primitive_element none h.meant.elements k.from w.from.0 w.from.1 in
        let to = scope_element-primitive_element none h.meant.elements k.to w.to.0 w.to.1 in
        let r = whole-roles j w.there in
        let l : Leads c (begin_node [] j.from j.from.role j.out_port) (end_node [] j.to j.to.role j.in_port) = by_connection [] whole [] j to_whole w.there in
        let a : begin_node [] j.from j.from.role j.out_port ≡ output_of from.0.path k.out_port =
        begins-own j.from j.from.role j.out_port r.0 ∙ (let p = from.2 in let n = w.from.2 in let o = w.out_port in cc (p, n, o)) in
        let b : end_node [] j.to j.to.role j.in_port ≡ input_of to.0.path k.in_port =
        ends-own j.to j.to.role j.in_port r.1 ∙ (let p = to.2 in let n = w.to.2 in let o = w.in_port in cc (p, n, o)) in
        let leads : Leads c (output_of from.0.path k.out_port) (input_of to.0.path k.in_port) = rw (← a, ← b) l in
        h.meant.connections.complete k (record { from = from.0; from_there = from.1; to = to.0; to_there = to.1; leads = leads })
