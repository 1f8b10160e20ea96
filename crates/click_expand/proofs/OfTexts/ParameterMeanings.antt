-- The value of a parameter in an instance, and where it is read.
use Rattle.std.proofs.Common.{◌≡◌, ℕ, zero, suc, ◌+◌, ◌-◌, ◌<◌, ◌≤◌, List, [], ◌∷◌, length, get_or, drop, Bool, true, false, cond, Option, Some, None, refl, sym, ap, ◌∙◌, subst, arith, length-take, length-drop, position}
use Rattle.std.specs.Prelude.{if◌then◌else◌, option_map, option_and_then}
use Rattle.std.specs.List.{slice_get, position_from}
use Rattle.std.specs.Str.{bytes_eq}
use Rattle.std.proofs.lemmas.Option.{slice_get_read}
use Rattle.std.proofs.lemmas.List.Elements.{All-contains}
use Rattle.std.proofs.lemmas.Bool.{eq-eqb}
use Rattle.std.proofs.lemmas.Iterator.Adapters.{position_from-zero}
use Rattle.click_text.specs.declared.syntax.Span.{Span}
use Rattle.click_text.specs.declared.syntax.Statement.{Statement}
use Rattle.click_text.specs.declared.syntax.Config.{Config}
use Rattle.click_text.specs.Arguments.{AreArguments}
use Rattle.click_text.specs.Spans.{bytes_at}
use Rattle.click_scopes.specs.Scopes.{Scope, inside, body_formals, Stands}
use Rattle.click_scopes.specs.Classes.{compound}
use Rattle.click_scopes.specs.Elements.{ScopeElement, string_or_empty}
use Rattle.click_scopes.specs.Faults.{elements_of_scope}
use Rattle.click_expand.specs.Parameters.{Bindings, arguments_for, argument_of, scope_value, IsReplaced}
use Rattle.click_expand.specs.Instances.{PrimitiveElement, AreValues, next_value}
use Rattle.click_scopes.specs.kept.Scoped.{table_place}
use Rattle.click_scopes.specs.kept.Tables.{scope_element_of}
use Rattle.click_scopes.specs.kept.CompoundArguments.{HasArguments}
use Rattle.click_scopes.specs.kept.AllScopes.{AreAllScopes}
use Rattle.click_expand.specs.kept.KnownInstances.{KnownInstance, IsEnclosing, IsInstance, AreInstances}
use Rattle.click_expand.specs.kept.ParameterValues.{own_arguments}
use Rattle.click_scopes.specs.declared.scope_elements.ScopeElement.{ScopeElement as ScopeElementKept}
use Rattle.click_scopes.specs.kept.Lookups.{spans_by, spans_found, string_kept, string_found}
use Rattle.click_scopes.specs.declared.scopes.Scope.{Scope as ScopeKept}
use Rattle.click_expand.specs.declared.instances.tree.Place.{Place}
use Rattle.click_expand.specs.declared.instances.tree.Instance.{Instance as InstanceKept}
use Rattle.click_text.proofs.OfArguments.OneArgumentList.{arguments-once}
use Rattle.click_scopes.proofs.OfLists.ListParts.{contains-at, map-there}

pub some-same : {X : Type 0} {x y : X} → Some x ≡ Some y → x ≡ y
some-same h = cc h

module _ (text : List ℕ) (name : List ℕ) where
  -- the parameter has that name
  abbrev pub named : Span → Bool
  named f = bytes_eq (drop 1 (bytes_at text f)) name

  later : (i : ℕ) (fs : List Span) → position_from named (i + 1) fs ≡ option_map suc (position_from named i fs)
  later i [] = refl
  later i (f ∷ fs) =
      elim (named f) as (λ b. cond b (Some (i + 1)) (position_from named (i + 1 + 1) fs) ≡ option_map suc (cond b (Some i) (position_from named (i + 1) fs))) [
        | true ↦ let e : i + 1 ≡ suc i = omega arith in ap Some e
        | false ↦ later (i + 1) fs
      ]

  behind-first : (v : List ℕ) (values : List (List ℕ)) (o : Option ℕ) → option_and_then (slice_get (v ∷ values)) (option_map suc o) ≡ option_and_then (slice_get values) o
  behind-first v values None = refl
  behind-first v values (Some i) = refl

  none-at : (o : Option ℕ) → None ≡ option_and_then (slice_get {X = List ℕ} []) o
  none-at None = refl
  none-at (Some i) = refl

  argument-from : (fs : List Span) (values : List (List ℕ)) → argument_of text fs values name ≡ option_and_then (slice_get values) (position_from named 0 fs)
  argument-from [] values = refl
  argument-from (f ∷ fs) [] = none-at (position_from named 0 (f ∷ fs))
  argument-from (f ∷ fs) (v ∷ values) =
      elim (named f) as (λ b. (if b then Some v else argument_of text fs values name) ≡ option_and_then (slice_get (v ∷ values)) (cond b (Some 0) (position_from named 1 fs))) [
        | true ↦ refl
        | false ↦
            argument-from fs values
            ∙ sym (ap (option_and_then (slice_get (v ∷ values))) (later 0 fs) ∙ behind-first v values (position_from named 0 fs))
      ]

  argument-by : (fs : List Span) (values : List (List ℕ)) → argument_of text fs values name ≡ option_and_then (slice_get values) (position named fs)
  argument-by fs values = argument-from fs values ∙ sym (ap (option_and_then (slice_get values)) (position_from-zero named fs))

module _ (c : Config) (bindings : Bindings) (enclosing : List Scope) (text : List ℕ) where
  -- the value of an argument has the same index
  pub value-beside : (spans : List Span) (values : List (List ℕ)) (i : ℕ) (s : Span) → AreValues c bindings enclosing text spans values → slice_get spans i ≡ Some s →
      (v : List ℕ) × (slice_get values i ≡ Some v) × IsReplaced c bindings enclosing (bytes_at text s) v
  value-beside [] values i s h e = absurd (cc e)
  value-beside (t ∷ spans) [] i s h e = elim h [ ]
  value-beside (t ∷ spans) (v ∷ values) zero s (next_value s' ss' v' vs' h r) e = (v, refl, subst (λ z. IsReplaced c bindings enclosing (bytes_at text z) v) (some-same e) h)
  value-beside (t ∷ spans) (v ∷ values) (suc i) s (next_value s' ss' v' vs' h r) e = value-beside spans values i s r e

  pub no-value : (spans : List Span) (values : List (List ℕ)) (i : ℕ) → AreValues c bindings enclosing text spans values → slice_get spans i ≡ None → slice_get values i ≡ None
  no-value [] [] i h e = refl
  no-value [] (v ∷ values) i h e = elim h [ ]
  no-value (t ∷ spans) [] i h e = refl
  no-value (t ∷ spans) (v ∷ values) zero h e = absurd (cc e)
  no-value (t ∷ spans) (v ∷ values) (suc i) (next_value s' ss' v' vs' h r) e = no-value spans values i r e

-- the text in the configuration string of a scope's element
pub string-is : (c : Config) (scopes : List ScopeKept) → AreAllScopes c scopes → (s : Scope) (visible : List Statement) (enclosing : List Scope) → Stands c s visible enclosing →
    (i : ℕ) (l : ScopeElement) → slice_get (elements_of_scope c s visible) i ≡ Some l → string_found c.text (slice_get scopes (table_place c s)) i ≡ l.text
string-is c scopes known s visible enclosing st i l there =
    let r = known s visible enclosing st in
    let k = map-there (scope_element_of c.text) r.0.elements.items i l (ap (λ z. slice_get z i) r.2.elements ∙ there) in
    ap (λ o. string_found c.text o i) r.1 ∙ ap (string_kept c.text) k.1 ∙ ap (λ (x : ScopeElement). x.text) k.2

spans-are : (c : Config) (scopes : List ScopeKept) → AreAllScopes c scopes → (s : Scope) (visible : List Statement) (enclosing : List Scope) → Stands c s visible enclosing →
    (i : ℕ) (l : ScopeElement) (b : ℕ) (spans : List Span) → slice_get (elements_of_scope c s visible) i ≡ Some l → l.meaning ≡ Some (compound b) → AreArguments l.text spans →
    spans_found (slice_get scopes (table_place c s)) i ≡ spans
spans-are c scopes known s visible enclosing st i l b spans there m h =
    let r = known s visible enclosing st in
    let k = map-there (scope_element_of c.text) r.0.elements.items i l (ap (λ z. slice_get z i) r.2.elements ∙ there) in
    let own = All-contains (HasArguments c.text) r.0.elements.items k.0 r.2.arguments (contains-at r.0.elements.items i k.0 k.1) b (ap (λ (x : ScopeElement). x.meaning) k.2 ∙ m) in
    ap (λ o. spans_found o i) r.1 ∙ ap spans_by k.1 ∙ arguments-once l.text k.0.arguments spans (subst (λ t. AreArguments t k.0.arguments) (ap (λ (x : ScopeElement). x.text) k.2) own) h

scope-value-inner : (c : Config) (o x : KnownInstance) (b : ℕ) (values : List (List ℕ)) (name : List ℕ) → x.scope ≡ inside b → x.bindings ≡ (b, values) ∷ o.bindings →
    scope_value c x.bindings x.scope name ≡ argument_of c.text (body_formals (slice_get c.bodies b)) values name
scope-value-inner c o x b values name e f =
    ap (λ z. scope_value c z x.scope name) f ∙ ap (λ z. scope_value c ((b, values) ∷ o.bindings) z name) e
    ∙ ap (λ z. argument_of c.text (body_formals (slice_get c.bodies b)) (if z then values else arguments_for o.bindings b) name) (eq-eqb b b refl)

module _ (c : Config) (instances : List InstanceKept) (places : List Place) (known : List KnownInstance) (primitive_elements : List PrimitiveElement) (are : AreInstances c instances places known primitive_elements) where
  pub use-at : (u : ℕ) (k : InstanceKept) (x : KnownInstance) → slice_get instances u ≡ Some k → slice_get known u ≡ Some x → IsInstance c instances places known u k x
  use-at u k x h g = let r = are.each u k h in subst (λ z. IsInstance c instances places known u k z) (some-same (sym r.1 ∙ g)) r.2

  enclosing-at : (u : ℕ) (k : InstanceKept) (x : KnownInstance) (p : Place) → slice_get instances u ≡ Some k → slice_get known u ≡ Some x → k.enclosing ≡ Some p → IsEnclosing c known u x (Some p)
  enclosing-at u k x p h g e = subst (λ z. IsEnclosing c known u x z) e (use-at u k x h g).enclosing

  -- the parameters of the body of an instance, and the places of its arguments
  pub own-value : (scopes : List ScopeKept) → AreAllScopes c scopes →
      (u : ℕ) (k j : InstanceKept) (x : KnownInstance) (p : Place) → k ≡ get_or instances u k → u < length instances → slice_get known u ≡ Some x → k.enclosing ≡ Some p → j ≡ get_or instances p.within j → p.within < u →
      (text name : List ℕ) (fs : List Span) (found : Option ℕ) → text ≡ c.text → fs ≡ body_formals (slice_get c.bodies k.scope) → found ≡ position (named text name) fs →
      (o : KnownInstance) × (slice_get known p.within ≡ Some o) × (scope_value c x.bindings x.scope name ≡ option_and_then (slice_get (own_arguments x.bindings)) found)
      × AreValues c o.bindings (o.scope ∷ o.enclosing) (string_found text (slice_get scopes (get_or instances p.within j).scope) p.element)
      (spans_found (slice_get scopes (get_or instances p.within j).scope) p.element) (own_arguments x.bindings)
  own-value scopes all u k j x p kept l h e q w text name fs found et ef is =
      let lu : p.within < length instances = omega (arith, l, w) in
      let there : slice_get instances u ≡ Some k = slice_get_read instances (length instances) u k refl l kept in
      let n = use-at u k x there h in
      let a = enclosing-at u k x p there h e in
      let o = a.1.0 in
      let i = a.1.2 in
      let m = use-at p.within j o (slice_get_read instances (length instances) p.within j refl lu q) a.1.1 in
      let scope : table_place c o.scope ≡ (get_or instances p.within j).scope = sym m.scope ∙ ap (λ (z : InstanceKept). z.scope) q in
      let formals : body_formals (slice_get c.bodies i.body) ≡ fs = ap (λ z. body_formals (slice_get c.bodies z)) (sym (n.scope ∙ ap (table_place c) i.scope)) ∙ sym ef in
      let own : i.values ≡ own_arguments x.bindings = sym (ap own_arguments i.bindings) in
      let string : i.scope_element.text ≡ string_found text (slice_get scopes (get_or instances p.within j).scope) p.element =
      sym (string-is c scopes all o.scope o.visible o.enclosing m.stands p.element i.scope_element i.there) ∙ ap (λ z. string_found z (slice_get scopes (table_place c o.scope)) p.element) (sym et)
      ∙ ap (λ z. string_found text (slice_get scopes z) p.element) scope in
      let spans : i.spans ≡ spans_found (slice_get scopes (get_or instances p.within j).scope) p.element =
      sym (spans-are c scopes all o.scope o.visible o.enclosing m.stands p.element i.scope_element i.body i.spans i.there i.meaning i.arguments) ∙ ap (λ z. spans_found (slice_get scopes z) p.element) scope in (
        o,
        a.1.1,
        scope-value-inner c o x i.body i.values name i.scope i.bindings ∙ argument-by c.text name (body_formals (slice_get c.bodies i.body)) i.values
            ∙ ap (λ z. option_and_then (slice_get z) (position (named c.text name) (body_formals (slice_get c.bodies i.body)))) own
            ∙ ap (option_and_then (slice_get (own_arguments x.bindings))) (ap (position (named c.text name)) formals ∙ ap (λ z. position (named z name) fs) (sym et) ∙ sym is),
        subst (λ z. AreValues c o.bindings (o.scope ∷ o.enclosing) z (spans_found (slice_get scopes (get_or instances p.within j).scope) p.element) (own_arguments x.bindings)) string
            (subst (λ z. AreValues c o.bindings (o.scope ∷ o.enclosing) i.scope_element.text z (own_arguments x.bindings)) spans
            (subst (λ z. AreValues c o.bindings (o.scope ∷ o.enclosing) i.scope_element.text i.spans z) own i.replaced)),
      )

-- no configuration string is longer than the text
pub bytes-short : (text : List ℕ) (s : Span) → length (bytes_at text s) ≤ length text
bytes-short text s = omega (arith, length-take (s.end - s.start) (drop s.start text), length-drop s.start text)

string-short : (text : List ℕ) (s : Option Span) → length (string_or_empty text s) ≤ length text
string-short text None = omega arith
string-short text (Some s) = let b = bytes_at text s in omega (arith, bytes-short text s, length-take (length b - 2) (drop 1 b), length-drop 1 b)

kept-short : (text : List ℕ) (l : Option ScopeElementKept) → length (string_kept text l) ≤ length text
kept-short text None = omega arith
kept-short text (Some l) = string-short text l.text

pub found-short : (text : List ℕ) (o : Option ScopeKept) (i : ℕ) → length (string_found text o i) ≤ length text
found-short text None i = omega arith
found-short text (Some k) i = kept-short text (slice_get k.elements.items i)

pub is-none : {X : Type 0} (o : Option X) → ((x : X) → o ≡ Some x → ⊥) → o ≡ None
is-none None h = refl
is-none (Some x) h = absurd (h x refl)
