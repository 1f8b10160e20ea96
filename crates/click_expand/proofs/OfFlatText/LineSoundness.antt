-- A configuration that consists of the lines of a flat form (`Lines`) has no misuse.
use Rattle.std.proofs.Common.{◌≡◌, inl, inr, ℕ, ◌+◌, ◌<◌, List, [], ◌∷◌, ◌++◌, length, map, Bool, true, false, Some, None, refl, sym, ap, subst, arith}
use Rattle.std.specs.Prelude.{Contains}
use Rattle.std.specs.List.{AllByRecursion}
use Rattle.std.specs.Str.{bytes_eq}
use Rattle.std.proofs.lemmas.Bool.{cases_Bool, or_cases, false≢true}
use Rattle.std.proofs.lemmas.Slice.Eq.{bytes_eq-Decides}
use Rattle.std.proofs.lemmas.List.Elements.{Contains-append_right, filter_map-append, All-from_recursion, All-contains}
use Rattle.click_text.specs.declared.syntax.Span.{Span}
use Rattle.click_base.specs.declared.class.Class.{Class}
use Rattle.click_text.specs.declared.syntax.ClassReference.TheVariants as class
use Rattle.click_text.specs.declared.syntax.Head.TheVariants as head
use Rattle.click_text.specs.declared.syntax.Statement.{Statement}
use Rattle.click_text.specs.declared.syntax.Statement.TheVariants as statement
use Rattle.click_text.specs.declared.syntax.Config.{Config}
use Rattle.click_text.specs.Grammar.{element}
use Rattle.click_text.specs.Spans.{bytes_at}
use Rattle.click_scopes.specs.declared.fault.WrongUse.{WrongUse}
use Rattle.click_expand.specs.declared.flat.FlatElement.{FlatElement}
use Rattle.click_expand.specs.declared.flat.Connection.{Connection}
use Rattle.click_scopes.specs.Scopes.{Scope, whole, inside, Stands, at_top, nested, bodies_in, is_body}
use Rattle.click_scopes.specs.Classes.{primitive, compound, meaning}
use Rattle.click_scopes.specs.Elements.{Placed, place, placed, declared_names, input_name, output_name, Role, refers, makes, role, element_meaning, ScopeElement, scope_elements_from, made_name}
use Rattle.click_base.specs.NameLists.{has_name}
use Rattle.click_scopes.specs.Faults.{End, WrittenConnection, ScopeNames, scope_names, written_end, end_by, written_connections_behind, written_connections_from, declared_meaning, scope_placed, scope_declared, scope_connections, is_pseudo, IsWrong, unknown_name, unknown_class, unknown_declared, unknown_original, named_twice, port_declared, formal_twice, wrong_parameters, no_output, no_input, output_as_source, input_as_target, input_gap, output_gap}
use Rattle.click_expand.specs.Flat.{AreDistinct}
use Rattle.click_expand.specs.FlatText.{name_at_place}
use Rattle.click_expand.proofs.OfFlatText.Lines.{element_statement, connection_statement, AreLines, no_lines, required, first_connection, first_element}
use Rattle.click_expand.proofs.OfFlatText.LineScope.{names, IsPlain, plain_none, plain_more, plain_required, declared_are, word_refers, class_known}

-- the configuration with these statements
abbrev pub config_of : List ℕ → List Statement → Config
config_of text ss = record { text = text; statements = ss; bodies = [] }

pub at_split : {X : Type 0} (P : X → Type 0) (xs before after : List X) (x : X) → AllByRecursion P xs → xs ≡ before ++ x ∷ after → P x
at_split P xs [] after x a e = let b : AllByRecursion P (x ∷ after) = rw e at a in b.0
at_split P [] (y ∷ before) after x a e = cc
at_split P (z ∷ xs) (y ∷ before) after x a e = let f : xs ≡ before ++ x ∷ after = cc in at_split P xs before after x a.1 f

-- the statement is a chain without bodies
pub record IsLine (st : Statement) : Type 0 where
  pub bodies : bodies_in st ≡ []
  pub no_synonym : (n c : Span) → st ≡ statement.Synonym n c → ⊥

pub lines_are : {text : List ℕ} {all : List FlatElement} {g : Bool} {es : List FlatElement} {ks : List Connection} {ss : List Statement} → AreLines text all g es ks ss → AllByRecursion IsLine ss
lines_are no_lines = tt
lines_are (required es ks t ss r l) = (record { bodies = refl; no_synonym = λ n c e. cc }, lines_are l)
lines_are (first_connection k ks s t p q ss j l) = (record { bodies = refl; no_synonym = λ n c e. cc }, lines_are l)
lines_are (first_element e es ks s w o ss d i l) = (record { bodies = refl; no_synonym = λ n c e. cc }, lines_are l)

pub only_whole : {c : Config} {s : Scope} {visible : List Statement} {enclosing : List Scope} → AllByRecursion IsLine c.statements → Stands c s visible enclosing →
    (s ≡ whole) × (visible ≡ []) × (enclosing ≡ [])
only_whole h at_top = (refl, refl, refl)
only_whole {c} h (nested s visible enclosing before after st b stands e k) =
    let i = only_whole h stands in
    let g : c.statements ≡ before ++ st ∷ after = rw i.0 at e in
    let l : IsLine st = at_split IsLine c.statements before after st h g in
    let c : Contains [] b = rw l.bodies at k in
    absurd (omega (arith, c.1))

-- a written element in these lines: declared with its class, or named in a connection
pub data IsMade (text : List ℕ) (declared : List (List ℕ)) (p : Placed) : Type 0 where
  made : (s w : Span) (v : Class) → p.element.head ≡ head.Declared s (class.Named w) → element_meaning text p ≡ Some (primitive v) → IsMade text declared p
  named : (s : Span) → p.element.head ≡ head.Word s → p.element.text ≡ None → role text false declared p.element ≡ refers → IsMade text declared p

pub placed_are : {text : List ℕ} {all : List FlatElement} {g : Bool} {es : List FlatElement} {ks : List Connection} {ss : List Statement} (visible : List Statement) → IsPlain text g visible →
    AreLines text all g es ks ss → AllByRecursion (IsMade text (names all)) (placed visible ss)
placed_are visible v no_lines = tt
placed_are {text} visible v (required es ks t ss r l) = placed_are (statement.Requirement (Some t) ∷ visible) (plain_required text visible t r v) l
placed_are {text} {all} {g} visible v (first_connection k ks s t p q ss j l) = (
  named s refl refl (word_refers text all s k.from j.from_there j.from),
  (
    named t refl refl (word_refers text all t k.to j.to_there j.to),
    placed_are (connection_statement s t p q ∷ visible) (plain_more text g visible _ v) l,
  ),
)
placed_are {text} {all} {g} visible v (first_element e es ks s w o ss d i l) = (
  made s w e.class refl (class_known text g visible e w v i d.class),
  placed_are (element_statement s w o ∷ visible) (plain_more text g visible _ v) l,
)

-- the names of these elements
made_names : (text : List ℕ) (declared : List (List ℕ)) (n : ℕ) (ps : List Placed) → AllByRecursion (IsMade text declared) ps →
    map (λ (l : ScopeElement). l.name) (scope_elements_from text false declared n ps) ≡ declared_names text ps
unfolding scope_elements_from
made_names text declared n [] a = refl
made_names text declared n (p ∷ ps) a = elim a.0 [
  | made s w v h m ↦ rw h (ap (λ (ns : List (List ℕ)). bytes_at text s ∷ ns) (made_names text declared (n + 1) ps a.1))
  | named s h t r ↦ rw (r, h) (made_names text declared n ps a.1)
]

all_front : {X : Type 0} (P : X → Type 0) (xs ys : List X) → AllByRecursion P (xs ++ ys) → AllByRecursion P xs
all_front P [] ys a = tt
all_front P (x ∷ xs) ys a = (a.0, all_front P xs ys a.1)

pub contains_first : {X : Type 0} (x : X) (xs : List X) → Contains (x ∷ xs) x
contains_first x xs = (0, omega arith, refl)

once : (xs ys : List (List ℕ)) (y : List ℕ) → AreDistinct (xs ++ y ∷ ys) → has_name y xs ≡ true → ⊥
once [] ys y d h = false≢true h
once (x ∷ xs) ys y d h = elim (or_cases (bytes_eq y x) (has_name y xs) h) [
  | inl e ↦ let f : y ≡ x = (bytes_eq-Decides y x).0 e in d.0 (rw (← f) (Contains-append_right xs (y ∷ ys) y (contains_first y ys)))
  | inr e ↦ once xs ys y d.1 e
]

-- no end of a connection belongs to a compound
pub no_compound : {text : List ℕ} {all : List FlatElement} {g : Bool} {es : List FlatElement} {ks : List Connection} {ss : List Statement} (visible : List Statement) (name : List ℕ) (b : ℕ) → IsPlain text g visible →
    AreLines text all g es ks ss → declared_meaning text (placed visible ss) name ≡ Some (compound b) → ⊥
no_compound visible name b v no_lines h = cc
no_compound {text} visible name b v (required es ks t ss r l) h = no_compound (statement.Requirement (Some t) ∷ visible) name b (plain_required text visible t r v) l h
no_compound {text} {all} {g} visible name b v (first_connection k ks s t p q ss j l) h =
    no_compound (connection_statement s t p q ∷ visible) name b (plain_more text g visible _ v) l h
no_compound {text} {all} {g} visible name b v (first_element e es ks s w o ss d i l) h = elim (cases_Bool (bytes_eq (bytes_at text s) name)) [
  | inl x ↦ let f : meaning text visible (bytes_at text w) ≡ Some (compound b) = rw x at h in let m = class_known text g visible e w v i d.class in cc
  | inr x ↦ let f : declared_meaning text (placed (element_statement s w o ∷ visible) ss) name ≡ Some (compound b) = rw x at h in
      no_compound (element_statement s w o ∷ visible) name b (plain_more text g visible _ v) l f
]

pub record IsEndOf (e : End) (n : List ℕ) : Type 0 where
  pub name : e.name ≡ n
  pub role : e.role ≡ refers
  pub meaning : (b : ℕ) → e.meaning ≡ Some (compound b) → ⊥

pub record IsWrittenConnectionOf (all : List FlatElement) (k : Connection) (j : WrittenConnection) : Type 0 where
  pub from_there : k.from < length all
  pub to_there : k.to < length all
  pub from : IsEndOf j.from (name_at_place all k.from)
  pub to : IsEndOf j.to (name_at_place all k.to)
  pub out_port : j.out_port ≡ k.out_port
  pub in_port : j.in_port ≡ k.in_port

pub data AreWrittenConnections (all : List FlatElement) : List Connection → List WrittenConnection → Type 0 where
  no_written_connections : AreWrittenConnections all [] []
  first_written_connection : (k : Connection) (ks : List Connection) (j : WrittenConnection) (js : List WrittenConnection) → IsWrittenConnectionOf all k j → AreWrittenConnections all ks js → AreWrittenConnections all (k ∷ ks) (j ∷ js)

abbrev pub names_with : List FlatElement → List Placed → ScopeNames
names_with all written = record { in_body = false; declared = names all; written = written }

abbrev NoCompound : List ℕ → List Placed → Type 0
NoCompound text written = (name : List ℕ) (b : ℕ) → declared_meaning text written name ≡ Some (compound b) → ⊥

end_is : (c : Config) (all : List FlatElement) (written : List Placed) (n : ℕ) (visible : List Statement) (s : Span) (i : ℕ) → i < length all → bytes_at c.text s ≡ name_at_place all i →
    NoCompound c.text written → IsEndOf (written_end c (names_with all written) n (place visible (element (head.Word s) None))) (name_at_place all i)
end_is c all written n visible s i h e none =
    let N = names_with all written in
    let p = place visible (element (head.Word s) None) in
    let P : Role → Type 0 = λ r. IsEndOf (end_by c N n p r) (name_at_place all i) in
    subst P (sym (word_refers c.text all s i h e)) (record { name = e; role = refl; meaning = λ b g. none (bytes_at c.text s) b g })

pub written_connections_are : (c : Config) {all : List FlatElement} {g : Bool} {es : List FlatElement} {ks : List Connection} {ss : List Statement} (written : List Placed) (visible : List Statement) (n : ℕ) → NoCompound c.text written →
    AreLines c.text all g es ks ss → AreWrittenConnections all ks (written_connections_from c (names_with all written) visible n ss)
unfolding written_connections_from written_connections_behind
written_connections_are c written visible n none no_lines = no_written_connections
written_connections_are c written visible n none (required es ks t ss r l) = written_connections_are c written (statement.Requirement (Some t) ∷ visible) _ none l
written_connections_are c {all} {g} written visible n none (first_connection k ks s t p q ss j l) =
    let a = end_is c all written n visible s k.from j.from_there j.from none in
    first_written_connection k ks _ _
    (record { from_there = j.from_there; to_there = j.to_there; from = a; to = end_is c all written _ visible t k.to j.to_there j.to none; out_port = j.out_port; in_port = j.in_port })
    (written_connections_are c written (connection_statement s t p q ∷ visible) _ none l)
written_connections_are c written visible n none (first_element e es ks s w o ss d i l) = written_connections_are c written (element_statement s w o ∷ visible) _ none l

written_connections_ends : {all : List FlatElement} {ks : List Connection} {js : List WrittenConnection} → AreWrittenConnections all ks js → AllByRecursion (λ (j : WrittenConnection). (k : Connection) × IsWrittenConnectionOf all k j) js
written_connections_ends no_written_connections = tt
written_connections_ends (first_written_connection k ks j js h a) = ((k, h), written_connections_ends a)

-- what holds of the only scope of a configuration that consists of these lines
pub record Says (c : Config) (all : List FlatElement) (ks : List Connection) : Type 0 where
  pub bodyless : AllByRecursion IsLine c.statements
  pub written : AllByRecursion (IsMade c.text (names all)) (scope_placed c whole [])
  pub declared : scope_declared c whole [] ≡ names all
  pub written_connections : AreWrittenConnections all ks (scope_connections c whole [])

pub says : (text : List ℕ) (all : List FlatElement) (ks : List Connection) (ss : List Statement) → AreLines text all false all ks ss → Says (config_of text ss) all ks
says text all ks ss l =
    let e : declared_names text (placed [] ss) ≡ names all = declared_are [] l in
    let d = config_of text ss in
    let N : scope_names d whole [] ≡ names_with all (placed [] ss) = ap (λ (x : List (List ℕ)). let n : ScopeNames = record { in_body = false; declared = x; written = placed [] ss } in n) e in
    let P : ScopeNames → Type 0 = λ n. AreWrittenConnections all ks (written_connections_from d n [] 0 ss) in
    record {
      bodyless = lines_are l;
      written = placed_are [] (plain_none text) l;
      declared = e;
      written_connections = subst P (sym N) (written_connections_are d (placed [] ss) [] 0 (λ name b h. no_compound [] name b (plain_none text) l h) l);
    }

made_refers : (text : List ℕ) (declared : List (List ℕ)) (p : Placed) (b : ℕ) → IsMade text declared p → role text false declared p.element ≡ makes → element_meaning text p ≡ Some (compound b) → ⊥
made_refers text declared p b (made s w v h m) r e = cc
made_refers text declared p b (named s h t r) q e = cc

made_some : (text : List ℕ) (declared : List (List ℕ)) (p : Placed) → IsMade text declared p → role text false declared p.element ≡ makes → element_meaning text p ≡ None → ⊥
made_some text declared p (made s w v h m) r e = cc
made_some text declared p (named s h t r) q e = cc

made_plain : (text : List ℕ) (declared : List (List ℕ)) (p : Placed) (string : Span) → IsMade text declared p → p.element.text ≡ Some string → element_meaning text p ≡ None → ⊥
made_plain text declared p string (made s w v h m) r e = cc
made_plain text declared p string (named s h t r) q e = cc

made_word : (text : List ℕ) (declared : List (List ℕ)) (p : Placed) (n w : Span) → IsMade text declared p → p.element.head ≡ head.Declared n (class.Named w) → element_meaning text p ≡ None → ⊥
made_word text declared p n x (made s w v h m) r e = cc
made_word text declared p n x (named s h t r) q e = cc

made_twice : (text : List ℕ) (all : List FlatElement) (front back : List Placed) (p : Placed) (n : ℕ) → AllByRecursion (IsMade text (names all)) (front ++ p ∷ back) →
    declared_names text (front ++ p ∷ back) ≡ names all → AreDistinct (names all) → IsMade text (names all) p → role text false (names all) p.element ≡ makes →
    has_name (made_name text n p.element.head) (map (λ (l : ScopeElement). l.name) (scope_elements_from text false (names all) 0 front)) ≡ true → ⊥
made_twice text all front back p n a e d (named s h t r) q x = cc
made_twice text all front back p n a e d (made s w v h m) q x =
    let f = made_names text (names all) 0 front (all_front (IsMade text (names all)) front (p ∷ back) a) in
    let g : has_name (bytes_at text s) (declared_names text front) ≡ true = rw (f, h) at x in
    let i : declared_names text (p ∷ back) ≡ bytes_at text s ∷ declared_names text back = rw h refl in
    let k : AreDistinct (declared_names text front ++ bytes_at text s ∷ declared_names text back) = rw (← i, ← filter_map-append _ front (p ∷ back), e) d in
    once (declared_names text front) (declared_names text back) (bytes_at text s) k g

written_connection_at : {all : List FlatElement} {ks : List Connection} (js : List WrittenConnection) (j : WrittenConnection) → AreWrittenConnections all ks js → Contains js j → (k : Connection) × IsWrittenConnectionOf all k j
written_connection_at {all} js j a c =
    let P : WrittenConnection → Type 0 = λ j. (k : Connection) × IsWrittenConnectionOf all k j in
    All-contains P js j (All-from_recursion P js (written_connections_ends a)) c

no_pseudo : (w n : List ℕ) (e : End) → IsEndOf e n → is_pseudo w e ≡ true → ⊥
no_pseudo w n e h p = let g : false ≡ true = rw h.role at p in false≢true g

no_body : {c : Config} {b : ℕ} {visible : List Statement} {enclosing : List Scope} → AllByRecursion IsLine c.statements → Stands c (inside b) visible enclosing → ⊥
no_body h s = let i = only_whole h s in cc

-- an element of the only scope
made_in : (c : Config) (all : List FlatElement) (ks : List Connection) → Says c all ks → (s : Scope) (visible : List Statement) (enclosing : List Scope) (front back : List Placed) (p : Placed) →
    Stands c s visible enclosing → scope_placed c s visible ≡ front ++ p ∷ back → IsMade c.text (names all) p
made_in c all ks h s visible enclosing front back p t e =
    let i = only_whole h.bodyless t in
    let f : scope_placed c whole [] ≡ front ++ p ∷ back = rw (i.0, i.1) at e in
    at_split (IsMade c.text (names all)) (scope_placed c whole []) front back p h.written f

makes_in : (c : Config) (all : List FlatElement) (ks : List Connection) → Says c all ks → (s : Scope) (visible : List Statement) (enclosing : List Scope) (p : Placed) →
    Stands c s visible enclosing → role c.text (is_body s) (scope_declared c s visible) p.element ≡ makes → role c.text false (names all) p.element ≡ makes
makes_in c all ks h s visible enclosing p t r =
    let i = only_whole h.bodyless t in
    let f : role c.text false (scope_declared c whole []) p.element ≡ makes = rw (i.0, i.1) at r in
    rw (← h.declared) f

joined_in : (c : Config) (all : List FlatElement) (ks : List Connection) → Says c all ks → (s : Scope) (visible : List Statement) (enclosing : List Scope) (j : WrittenConnection) →
    Stands c s visible enclosing → Contains (scope_connections c s visible) j → (k : Connection) × IsWrittenConnectionOf all k j
joined_in c all ks h s visible enclosing j t m =
    let i = only_whole h.bodyless t in
    let f : Contains (scope_connections c whole []) j = rw (i.0, i.1) at m in
    written_connection_at (scope_connections c whole []) j h.written_connections f

pub one_sound : (c : Config) (all : List FlatElement) (ks : List Connection) → AreDistinct (names all) → Says c all ks → (k : WrongUse) (at : Span) → IsWrong c k at → ⊥
one_sound c all ks d h k at (unknown_name s visible enclosing front back p w t e r hd tx m) =
    made_some c.text (names all) p (made_in c all ks h s visible enclosing front back p t e) (makes_in c all ks h s visible enclosing p t r) m
one_sound c all ks d h k at (unknown_class s visible enclosing front back p w string t e hd tx m) =
    made_plain c.text (names all) p string (made_in c all ks h s visible enclosing front back p t e) tx m
one_sound c all ks d h k at (unknown_declared s visible enclosing front back p n w t e hd m) =
    made_word c.text (names all) p n w (made_in c all ks h s visible enclosing front back p t e) hd m
one_sound c all ks d h k at (unknown_original s visible enclosing before after n w t e m) =
    let i = only_whole h.bodyless t in
    let f : c.statements ≡ before ++ statement.Synonym n w ∷ after = rw i.0 at e in
    (at_split IsLine c.statements before after (statement.Synonym n w) h.bodyless f).no_synonym n w refl
one_sound c all ks d h k at (named_twice s visible enclosing front back p t e r x m) =
    let i = only_whole h.bodyless t in
    let f : scope_placed c whole [] ≡ front ++ p ∷ back = rw (i.0, i.1) at e in
    let g : has_name (made_name c.text (length (scope_elements_from c.text false (names all) 0 front)) p.element.head) (map (λ (l : ScopeElement). l.name) (scope_elements_from c.text false (names all) 0 front)) ≡ true = rw (i.0, i.1, h.declared) at m in
    made_twice c.text all front back p _ (rw (← f) h.written) (rw (← f) h.declared) d (made_in c all ks h s visible enclosing front back p t e) (makes_in c all ks h s visible enclosing p t r) g
one_sound c all ks d h k at (port_declared b visible enclosing front back p n q t e hd m) = no_body h.bodyless t
one_sound c all ks d h k at (formal_twice b visible enclosing front back f t e m) = no_body h.bodyless t
one_sound c all ks d h k at (wrong_parameters s visible enclosing front back p b arguments t e r m a l) =
    made_refers c.text (names all) p b (made_in c all ks h s visible enclosing front back p t e) (makes_in c all ks h s visible enclosing p t r) m
one_sound c all ks d h k at (no_output s visible enclosing j b t m r e l) = (joined_in c all ks h s visible enclosing j t m).1.from.meaning b e
one_sound c all ks d h k at (no_input s visible enclosing j b t m r e l) = (joined_in c all ks h s visible enclosing j t m).1.to.meaning b e
one_sound c all ks d h k at (output_as_source s visible enclosing j t m e) = no_pseudo output_name _ j.from (joined_in c all ks h s visible enclosing j t m).1.from e
one_sound c all ks d h k at (input_as_target s visible enclosing j t m e) = no_pseudo input_name _ j.to (joined_in c all ks h s visible enclosing j t m).1.to e
one_sound c all ks d h k at (input_gap b visible enclosing p t l m) = no_body h.bodyless t
one_sound c all ks d h k at (output_gap b visible enclosing p t l m) = no_body h.bodyless t
