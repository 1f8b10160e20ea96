-- A configuration that consists of the lines of a flat form (`Lines`) has one scope. Its elements
-- are all declared and of the router's classes.
use Rattle.std.proofs.Common.{◌≡◌, ℕ, zero, suc, ◌+◌, ◌<◌, List, [], ◌∷◌, length, map, Bool, true, false, Some, None, inl, inr, refl, ◌∙◌, ap, arith}
use Rattle.std.specs.Prelude.{if◌then◌else◌}
use Rattle.std.specs.Str.{bytes_eq}
use Rattle.std.proofs.lemmas.Bool.{or_left, or_right, cases_Bool}
use Rattle.std.proofs.lemmas.Slice.Eq.{bytes_eq-Decides}
use Rattle.click_base.specs.Classes.{name, is_gateway, gateway_class_of}
use Rattle.click_base.specs.declared.class.Class.{Class}
use Rattle.click_base.specs.declared.class.Class.TheVariants as kind
use Rattle.click_base.proofs.ClassNames.{by_name, gateway-by_name}
use Rattle.click_text.specs.declared.syntax.Span.{Span}
use Rattle.click_text.specs.declared.syntax.ClassReference.TheVariants as class
use Rattle.click_text.specs.declared.syntax.Head.TheVariants as head
use Rattle.click_text.specs.declared.syntax.Chain.{Chain}
use Rattle.click_text.specs.declared.syntax.Statement.{Statement}
use Rattle.click_text.specs.declared.syntax.Statement.TheVariants as statement
use Rattle.click_text.specs.Grammar.{element}
use Rattle.click_text.specs.Spans.{bytes_at}
use Rattle.click_expand.specs.declared.flat.FlatElement.{FlatElement}
use Rattle.click_expand.specs.declared.flat.Connection.{Connection}
use Rattle.click_scopes.specs.Classes.{primitive, primitive_of, meaning, requires_gateway, gateway_or}
use Rattle.click_scopes.specs.Elements.{Placed, place, placed, declared_names, refers, role, ScopeElement, scope_element, scope_elements_from}
use Rattle.click_base.specs.NameLists.{has_name}
use Rattle.click_expand.specs.FlatText.{name_at_place}
use Rattle.click_expand.proofs.OfFlatText.Lines.{element_statement, connection_statement, AreLines, no_lines, required, first_connection, first_element}

-- the names of elements
abbrev pub names : List FlatElement → List (List ℕ)
names es = map (λ (e : FlatElement). e.name) es

-- No class is defined by these statements. The classes of the gateway package are visible after
-- them if and only if `g` is true.
abbrev pub IsPlain : List ℕ → Bool → List Statement → Type 0
IsPlain text g visible = (w : List ℕ) → meaning text visible w ≡ (if g then gateway_or w (primitive_of w) else primitive_of w)

pub plain_none : (text : List ℕ) → IsPlain text false []
unfolding meaning
plain_none text w = refl

pub plain_more : (text : List ℕ) (g : Bool) (visible : List Statement) (k : Chain) → IsPlain text g visible → IsPlain text g (statement.Chain k ∷ visible)
unfolding meaning
plain_more text g visible k h w = h w

pub plain_required : (text : List ℕ) (visible : List Statement) (t : Span) → requires_gateway text (Some t) ≡ true → IsPlain text false visible →
    IsPlain text true (statement.Requirement (Some t) ∷ visible)
unfolding meaning
plain_required text visible t r h w = rw (r, h w) refl

pub bytes_same : (xs : List ℕ) → bytes_eq xs xs ≡ true
bytes_same xs = (bytes_eq-Decides xs xs).1 refl

pub declared_are : {text : List ℕ} {all : List FlatElement} {g : Bool} {es : List FlatElement} {ks : List Connection} {ss : List Statement} (visible : List Statement) → AreLines text all g es ks ss →
    declared_names text (placed visible ss) ≡ names es
declared_are visible no_lines = refl
declared_are visible (required es ks t ss r l) = declared_are (statement.Requirement (Some t) ∷ visible) l
declared_are visible (first_connection k ks s t p q ss j l) = declared_are (connection_statement s t p q ∷ visible) l
declared_are visible (first_element e es ks s w o ss d i l) = rw d.name (ap (λ (ns : List (List ℕ)). e.name ∷ ns) (declared_are (element_statement s w o ∷ visible) l))

has_at : (es : List FlatElement) (i : ℕ) → i < length es → has_name (name_at_place es i) (names es) ≡ true
has_at [] i h = absurd (omega arith)
has_at (e ∷ es) zero h = or_left _ _ (bytes_same e.name)
has_at (e ∷ es) (suc i) h = or_right _ _ (has_at es i (omega arith))

-- a word in the line of a connection means the declared element
pub word_refers : (text : List ℕ) (all : List FlatElement) (s : Span) (i : ℕ) → i < length all → bytes_at text s ≡ name_at_place all i →
    role text false (names all) (element (head.Word s) None) ≡ refers
word_refers text all s i h e = rw (e, has_at all i h) refl

pub record IsScopeElement (e : FlatElement) (l : ScopeElement) : Type 0 where
  pub name : l.name ≡ e.name
  pub meaning : l.meaning ≡ Some (primitive e.class)
  pub text : l.text ≡ e.text

pub data AreScopeElements : List FlatElement → List ScopeElement → Type 0 where
  no_scope_elements : AreScopeElements [] []
  first_scope_element : (e : FlatElement) (es : List FlatElement) (l : ScopeElement) (ls : List ScopeElement) → IsScopeElement e l → AreScopeElements es ls → AreScopeElements (e ∷ es) (l ∷ ls)

-- a class that is not of the gateway package has the name of no class of the package
no-gateway : (c : Class) → is_gateway c ≡ false → gateway_class_of (name c) ≡ None
unfolding gateway_class_of
no-gateway kind.ARPResponder k = absurd (cc k)
no-gateway kind.ARPQuerier k = absurd (cc k)
no-gateway kind.ICMPError k = absurd (cc k)
no-gateway kind.ICMPPingResponder k = absurd (cc k)
no-gateway kind.HostEtherFilter k = absurd (cc k)
no-gateway kind.EtherMirror k = absurd (cc k)
no-gateway kind.IPMirror k = absurd (cc k)
no-gateway kind.SetIPChecksum k = absurd (cc k)
no-gateway kind.StripIPHeader k = absurd (cc k)
no-gateway kind.UDPIPEncap k = absurd (cc k)
no-gateway kind.IPFilter k = absurd (cc k)
no-gateway kind.IPClassifier k = absurd (cc k)
no-gateway _ k = refl

-- the name of a class means that class, if `g` is true or the class is not of the gateway package
name_known : (g : Bool) (c : Class) → (is_gateway c ≡ true → g ≡ true) → (if g then gateway_or (name c) (primitive_of (name c)) else primitive_of (name c)) ≡ Some (primitive c)
name_known true c i = elim (cases_Bool (is_gateway c)) [
  | inl k ↦ rw (gateway-by_name c k) refl
  | inr k ↦ rw (no-gateway c k, by_name c k) refl
]
name_known false c i = elim (cases_Bool (is_gateway c)) [
  | inl k ↦ absurd (let f : false ≡ true = i k in cc f)
  | inr k ↦ rw (by_name c k) refl
]

pub class_known : (text : List ℕ) (g : Bool) (visible : List Statement) (e : FlatElement) (w : Span) → IsPlain text g visible → (is_gateway e.class ≡ true → g ≡ true) →
    bytes_at text w ≡ name e.class → meaning text visible (bytes_at text w) ≡ Some (primitive e.class)
class_known text g visible e w v i h = v (bytes_at text w) ∙ rw h (name_known g e.class i)

scope_elements_word : (text : List ℕ) (declared : List (List ℕ)) (n : ℕ) (p : Placed) (ps : List Placed) → role text false declared p.element ≡ refers →
    scope_elements_from text false declared n (p ∷ ps) ≡ scope_elements_from text false declared n ps
unfolding scope_elements_from
scope_elements_word text declared n p ps r = rw r refl

pub scope_elements_are : {text : List ℕ} {all : List FlatElement} {g : Bool} {es : List FlatElement} {ks : List Connection} {ss : List Statement} (visible : List Statement) (n : ℕ) → IsPlain text g visible →
    AreLines text all g es ks ss → AreScopeElements es (scope_elements_from text false (names all) n (placed visible ss))
unfolding scope_elements_from
scope_elements_are visible n v no_lines = no_scope_elements
scope_elements_are {text} visible n v (required es ks t ss r l) = scope_elements_are (statement.Requirement (Some t) ∷ visible) n (plain_required text visible t r v) l
scope_elements_are {text} {all} {g} visible n v (first_connection k ks s t p q ss j l) =
    let st = connection_statement s t p q in
    rw (
      scope_elements_word text (names all) n (place visible (element (head.Word s) None)) _ (word_refers text all s k.from j.from_there j.from),
      scope_elements_word text (names all) n (place visible (element (head.Word t) None)) _ (word_refers text all t k.to j.to_there j.to),
    )
    (scope_elements_are (st ∷ visible) n (plain_more text g visible _ v) l)
scope_elements_are {text} {all} {g} visible n v (first_element e es ks s w o ss d i l) =
    first_scope_element e es (scope_element text n (place visible (element (head.Declared s (class.Named w)) o))) _
    (record { name = d.name; meaning = class_known text g visible e w v i d.class; text = d.string })
    (scope_elements_are (element_statement s w o ∷ visible) (n + 1) (plain_more text g visible _ v) l)
