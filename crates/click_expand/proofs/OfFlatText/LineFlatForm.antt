-- The flat form of a configuration that consists of the lines of a flat form (`Lines`).
use Rattle.std.proofs.Common.{◌≡◌, false, ℕ, zero, suc, ◌+◌, ◌<◌, ◌≤◌, List, [], ◌∷◌, ◌++◌, length, map, true, Some, refl, sym, ◌∙◌, ap, arith}
use Rattle.std.specs.Prelude.{Contains, slice_get, sum_by}
use Rattle.std.specs.List.{AllByRecursion}
use Rattle.std.proofs.lemmas.List.Folds.{fold-map}
use Rattle.std.proofs.lemmas.List.Elements.{Contains-append_right, All-from_recursion, All-contains}
use Rattle.click_base.specs.declared.class.Class.{Class}
use Rattle.click_text.specs.declared.syntax.Statement.{Statement}
use Rattle.click_text.specs.declared.syntax.Config.{Config}
use Rattle.click_expand.specs.declared.flat.FlatElement.{FlatElement}
use Rattle.click_expand.specs.declared.flat.Connection.{Connection}
use Rattle.click_expand.specs.declared.flat.Flat.{Flat}
use Rattle.click_scopes.specs.Scopes.{Scope, whole}
use Rattle.click_scopes.specs.Classes.{primitive}
use Rattle.click_scopes.specs.Elements.{ScopeElement}
use Rattle.click_scopes.specs.Faults.{WrittenConnection, scope_connections, elements_of_scope, first_token}
use Rattle.click_expand.specs.Parameters.{IsReplaced, value_in}
use Rattle.click_expand.specs.Instances.{PrimitiveElement, ArePrimitiveElements, no_elements, primitive_element, LeadsTo, to_whole, to_inner}
use Rattle.click_expand.specs.Connections.{Node, output_of, input_of, begin_node, end_node, Leads, by_connection, further}
use Rattle.click_expand.specs.Flat.{flat_name, flat_element, flat_names, Joins, AreOrdered, text_size, is_whole, AreDistinct, IsFlat, most_elements, most_connections, most_text}
use Rattle.click_expand.specs.FlatText.{name_at_place}
use Rattle.click_expand.proofs.OfFlatText.Lines.{AreLines}
use Rattle.click_expand.proofs.OfFlatText.TextItems.{items_of, items_bytes, replaced_none}
use Rattle.click_expand.proofs.OfFlatText.LineScope.{names, AreScopeElements, no_scope_elements, first_scope_element, scope_elements_are, plain_none}
use Rattle.click_expand.proofs.OfFlatText.LineSoundness.{config_of, at_split, contains_first, IsWrittenConnectionOf, AreWrittenConnections, no_written_connections, first_written_connection, Says, says, one_sound}

-- a flat element of the only scope
pub record IsPrimitiveElementOf (e : FlatElement) (l : PrimitiveElement) : Type 0 where
  pub path : l.path ≡ e.name ∷ []
  pub class : l.class ≡ e.class
  pub text : l.text ≡ e.text

pub data ArePrimitiveElementsOf : List FlatElement → List PrimitiveElement → Type 0 where
  no_primitive_elements : ArePrimitiveElementsOf [] []
  first_primitive_element : (e : FlatElement) (es : List FlatElement) (l : PrimitiveElement) (ls : List PrimitiveElement) → IsPrimitiveElementOf e l → ArePrimitiveElementsOf es ls → ArePrimitiveElementsOf (e ∷ es) (l ∷ ls)

pub record Grown (c : Config) (es : List FlatElement) (ls : List ScopeElement) : Type 0 where
  pub primitive_elements : List PrimitiveElement
  pub paths : ℕ
  pub grown : ArePrimitiveElements c whole [] [] [] ls primitive_elements paths
  pub few : paths ≡ length es
  pub are : ArePrimitiveElementsOf es primitive_elements

unreplaced : (c : Config) (text : List ℕ) → IsReplaced c [] (whole ∷ []) text text
unreplaced c text =
    let i = items_of text in
    record {
      items = i.0;
      read = i.1;
      replaces = sym (replaced_none (value_in c [] (whole ∷ [])) (λ name. refl) i.0 ∙ items_bytes i.1);
    }

primitive_elements_are : (c : Config) {es : List FlatElement} {ls : List ScopeElement} → AreScopeElements es ls → Grown c es ls
primitive_elements_are c no_scope_elements = record { primitive_elements = []; paths = 0; grown = no_elements whole [] [] []; few = refl; are = no_primitive_elements }
primitive_elements_are c (first_scope_element e es l ls h a) =
    let g = primitive_elements_are c a in
    let few : g.paths ≡ length es = g.few in
    let k : PrimitiveElement = record { path = l.name ∷ []; class = e.class; text = e.text; first = first_token c l.head } in
    record {
      primitive_elements = k ∷ g.primitive_elements;
      paths = g.paths + 1;
      grown = primitive_element whole [] [] [] l ls e.class e.text g.primitive_elements g.paths h.meaning (rw h.text (unreplaced c e.text)) g.grown;
      few = omega arith;
      are = first_primitive_element e es k g.primitive_elements (record { path = rw h.name refl; class = refl; text = refl }) g.are;
    }

one_element : (e : FlatElement) (l : PrimitiveElement) → IsPrimitiveElementOf e l → e ≡ flat_element l
one_element e l h = rw (h.path, h.class, h.text) refl

pub elements_are : {es : List FlatElement} {ls : List PrimitiveElement} → ArePrimitiveElementsOf es ls → es ≡ map flat_element ls
elements_are no_primitive_elements = refl
elements_are (first_primitive_element e es l ls h a) = let x = one_element e l h in let y = elements_are a in cc

-- properties of flat elements, by their elements
abbrev pub element_sizes : List FlatElement → ℕ
element_sizes es = sum_by (λ (e : FlatElement). length e.text) es

pub sizes_are : (ls : List PrimitiveElement) → text_size ls ≡ element_sizes (map flat_element ls)
sizes_are ls = sym (fold-map (λ (n : ℕ) (e : FlatElement). n + length e.text) flat_element 0 ls)

pub names_are : (ls : List PrimitiveElement) → flat_names ls ≡ names (map flat_element ls)
names_are [] = refl
names_are (l ∷ ls) = ap (λ (ns : List (List ℕ)). flat_name l.path ∷ ns) (names_are ls)

pub lengths_are : (ls : List PrimitiveElement) → length ls ≡ length (map flat_element ls)
lengths_are [] = refl
lengths_are (l ∷ ls) = ap (λ (n : ℕ). suc n) (lengths_are ls)

abbrev pub IsWholeText : FlatElement → Type 0
IsWholeText e = is_whole e.text ≡ true

pub whole_primitive_elements : (ls : List PrimitiveElement) → AllByRecursion IsWholeText (map flat_element ls) → AllByRecursion (λ (l : PrimitiveElement). is_whole l.text ≡ true) ls
whole_primitive_elements [] a = tt
whole_primitive_elements (l ∷ ls) a = (a.0, whole_primitive_elements ls a.1)

pub whole_elements : (ls : List PrimitiveElement) → AllByRecursion (λ (l : PrimitiveElement). is_whole l.text ≡ true) ls → AllByRecursion IsWholeText (map flat_element ls)
whole_elements [] a = tt
whole_elements (l ∷ ls) a = (a.0, whole_elements ls a.1)

-- indices
primitive_element_at : {es : List FlatElement} {ls : List PrimitiveElement} → ArePrimitiveElementsOf es ls → (i : ℕ) → i < length es → (l : PrimitiveElement) × (slice_get ls i ≡ Some l) × (l.path ≡ name_at_place es i ∷ [])
primitive_element_at no_primitive_elements i h = absurd (omega arith)
primitive_element_at (first_primitive_element e es l ls h a) zero i = (l, refl, h.path)
primitive_element_at (first_primitive_element e es l ls h a) (suc n) i = primitive_element_at a n (omega arith)

primitive_element_from : {es : List FlatElement} {ls : List PrimitiveElement} → ArePrimitiveElementsOf es ls → (i : ℕ) (k : PrimitiveElement) → slice_get ls i ≡ Some k → (i < length es) × (k.path ≡ name_at_place es i ∷ [])
primitive_element_from no_primitive_elements i k e = cc
primitive_element_from (first_primitive_element f es l ls h a) zero k e = let g : l ≡ k = cc in (omega arith, rw (← g) h.path)
primitive_element_from (first_primitive_element f es l ls h a) (suc n) k e = let r = primitive_element_from a n k e in let lt : n < length es = r.0 in (omega arith, r.1)

contains_more : {X : Type 0} (y : X) (xs : List X) (x : X) → Contains xs x → Contains (y ∷ xs) x
contains_more y xs x c = Contains-append_right (y ∷ []) xs x c

contains_name : (es : List FlatElement) (i : ℕ) → i < length es → Contains (names es) (name_at_place es i)
contains_name [] i h = absurd (omega arith)
contains_name (e ∷ es) zero h = contains_first e.name (names es)
contains_name (e ∷ es) (suc i) h = contains_more e.name (names es) (name_at_place es i) (contains_name es i (omega arith))

-- distinct names have one index each
distinct_at : (es : List FlatElement) (i j : ℕ) → AreDistinct (names es) → i < length es → j < length es → name_at_place es i ≡ name_at_place es j → i ≡ j
distinct_at [] i j d h k e = absurd (omega arith)
distinct_at (x ∷ es) zero zero d h k e = refl
distinct_at (x ∷ es) zero (suc j) d h k e = absurd (d.0 (rw e (contains_name es j (omega arith))))
distinct_at (x ∷ es) (suc i) zero d h k e = absurd (d.0 (rw (← e) (contains_name es i (omega arith))))
distinct_at (x ∷ es) (suc i) (suc j) d h k e = ap (λ (n : ℕ). suc n) (distinct_at es i j d.1 (omega arith) (omega arith) e)

-- written connections, and connections
all_weaker : {X : Type 0} (P Q : X → Type 0) → ((x : X) → P x → Q x) → (xs : List X) → AllByRecursion P xs → AllByRecursion Q xs
all_weaker P Q f [] a = tt
all_weaker P Q f (x ∷ xs) a = (f x a.0, all_weaker P Q f xs a.1)

abbrev HasWrittenConnection : List FlatElement → List WrittenConnection → Connection → Type 0
HasWrittenConnection all js k = (j : WrittenConnection) × Contains js j × IsWrittenConnectionOf all k j

abbrev HasConnection : List FlatElement → List Connection → WrittenConnection → Type 0
HasConnection all ks j = (k : Connection) × Contains ks k × IsWrittenConnectionOf all k j

written_connections_for : {all : List FlatElement} {ks : List Connection} {js : List WrittenConnection} → AreWrittenConnections all ks js → AllByRecursion (HasWrittenConnection all js) ks
written_connections_for no_written_connections = tt
written_connections_for {all} (first_written_connection k ks j js h a) =
    ((j, contains_first j js, h), all_weaker (HasWrittenConnection all js) (HasWrittenConnection all (j ∷ js)) (λ k x. (x.0, contains_more j js x.0 x.1, x.2)) ks (written_connections_for a))

connections_for : {all : List FlatElement} {ks : List Connection} {js : List WrittenConnection} → AreWrittenConnections all ks js → AllByRecursion (HasConnection all ks) js
connections_for no_written_connections = tt
connections_for {all} (first_written_connection k ks j js h a) =
    ((k, contains_first k ks, h), all_weaker (HasConnection all ks) (HasConnection all (k ∷ ks)) (λ j x. (x.0, contains_more k ks x.0 x.1, x.2)) js (connections_for a))

begins_is : (all : List FlatElement) (k : Connection) (j : WrittenConnection) → IsWrittenConnectionOf all k j → begin_node [] j.from j.from.role j.out_port ≡ output_of (name_at_place all k.from ∷ []) k.out_port
begins_is all k j h = rw (h.from.role, h.from.name, h.out_port) refl

ends_is : (all : List FlatElement) (k : Connection) (j : WrittenConnection) → IsWrittenConnectionOf all k j → end_node [] j.to j.to.role j.in_port ≡ input_of (name_at_place all k.to ∷ []) k.in_port
ends_is all k j h = rw (h.to.role, h.to.name, h.in_port) refl

-- the nodes of one of the connections
pub record IsWire (all : List FlatElement) (ks : List Connection) (a b : Node) : Type 0 where
  pub wire : Connection
  pub there : Contains ks wire
  pub from_there : wire.from < length all
  pub to_there : wire.to < length all
  pub begins : a ≡ output_of (name_at_place all wire.from ∷ []) wire.out_port
  pub ends : b ≡ input_of (name_at_place all wire.to ∷ []) wire.in_port

abbrev IsPrimitive : ScopeElement → Type 0
IsPrimitive l = (v : Class) × (l.meaning ≡ Some (primitive v))

primitives : {es : List FlatElement} {ls : List ScopeElement} → AreScopeElements es ls → AllByRecursion IsPrimitive ls
primitives no_scope_elements = tt
primitives (first_scope_element e es l ls h a) = ((e.class, h.meaning), primitives a)

only_top : {c : Config} {path : List (List ℕ)} {s : Scope} {visible : List Statement} → AllByRecursion IsPrimitive (elements_of_scope c whole []) → LeadsTo c path s visible →
    (path ≡ []) × (s ≡ whole) × (visible ≡ [])
only_top h to_whole = (refl, refl, refl)
only_top {c} h (to_inner path s visible before after l b inner outer t e m st) =
    let i = only_top h t in
    let f : elements_of_scope c whole [] ≡ before ++ l ∷ after = rw (i.1, i.2) at e in
    let g = at_split IsPrimitive (elements_of_scope c whole []) before after l h f in
    let k : l.meaning ≡ Some (primitive g.0) = g.1 in
    cc

wire_at : (all : List FlatElement) (ks : List Connection) (path : List (List ℕ)) (j : WrittenConnection) (k : Connection) → path ≡ [] → Contains ks k → IsWrittenConnectionOf all k j →
    IsWire all ks (begin_node path j.from j.from.role j.out_port) (end_node path j.to j.to.role j.in_port)
wire_at all ks path j k e m h =
    record { wire = k; there = m; from_there = h.from_there; to_there = h.to_there; begins = rw e (begins_is all k j h); ends = rw e (ends_is all k j h) }

wires : {c : Config} {all : List FlatElement} {ks : List Connection} {a b : Node} → Says c all ks → AllByRecursion IsPrimitive (elements_of_scope c whole []) → Leads c a b → IsWire all ks a b
wires {c} {all} {ks} h p (by_connection path s visible j t m) =
    let i = only_top p t in
    let n : Contains (scope_connections c whole []) j = rw (i.1, i.2) at m in
    let js = scope_connections c whole [] in
    let k = All-contains (HasConnection all ks) js j (All-from_recursion (HasConnection all ks) js (connections_for h.written_connections)) n in
    wire_at all ks path j k.0 i.0 k.1 k.2
wires h p (further a b d l r) =
    let x = wires h p l in
    let y = wires h p r in
    let e = x.ends in
    let f = y.begins in
    cc

same_connection : (j k : Connection) → j.from ≡ k.from → j.out_port ≡ k.out_port → j.to ≡ k.to → j.in_port ≡ k.in_port → j ≡ k
same_connection j k a b c d = rw (a, b, c, d) refl

leads_to : {c : Config} {all : List FlatElement} {ks : List Connection} → Says c all ks → (k : Connection) → Contains ks k →
    (k.from < length all) × (k.to < length all) × Leads c (output_of (name_at_place all k.from ∷ []) k.out_port) (input_of (name_at_place all k.to ∷ []) k.in_port)
leads_to {c} {all} {ks} h k m =
    let js = scope_connections c whole [] in
    let j = All-contains (HasWrittenConnection all js) ks k (All-from_recursion (HasWrittenConnection all js) ks (written_connections_for h.written_connections)) m in
    let l : Leads c (begin_node [] j.0.from j.0.from.role j.0.out_port) (end_node [] j.0.to j.0.to.role j.0.in_port) = by_connection [] whole [] j.0 to_whole j.1 in
    (j.2.from_there, j.2.to_there, rw (← begins_is all k j.0 j.2, ← ends_is all k j.0 j.2) l)

joins_all : {c : Config} {all : List FlatElement} {ks : List Connection} {ls : List PrimitiveElement} → Says c all ks → ArePrimitiveElementsOf all ls → (k : Connection) → Contains ks k → Joins c ls k
joins_all {c} {all} h a k m =
    let w = leads_to h k m in
    let f = primitive_element_at a k.from w.0 in
    let t = primitive_element_at a k.to w.1 in
    record { from = f.0; from_there = f.1; to = t.0; to_there = t.1; leads = rw (f.2, t.2) w.2 }

joins_only : {c : Config} {all : List FlatElement} {ks : List Connection} {ls : List PrimitiveElement} → Says c all ks → AllByRecursion IsPrimitive (elements_of_scope c whole []) → AreDistinct (names all) →
    ArePrimitiveElementsOf all ls → (k : Connection) → Joins c ls k → Contains ks k
joins_only {c} {all} {ks} h p d a k j =
    let w = wires h p j.leads in
    let f = primitive_element_from a k.from j.from j.from_there in
    let t = primitive_element_from a k.to j.to j.to_there in
    let x = w.begins in
    let y = w.ends in
    let fe = f.1 in
    let te = t.1 in
    let from-name : name_at_place all k.from ≡ name_at_place all w.wire.from = cc in
    let to-name : name_at_place all k.to ≡ name_at_place all w.wire.to = cc in
    let from : k.from ≡ w.wire.from = distinct_at all k.from w.wire.from d f.0 w.from_there from-name in
    let to : k.to ≡ w.wire.to = distinct_at all k.to w.wire.to d t.0 w.to_there to-name in
    let e : k ≡ w.wire = same_connection k w.wire from (cc) to (cc) in
    rw e w.there

-- what holds of a flat form by itself, whatever its configuration
pub record IsItself (f : Flat) : Type 0 where
  pub distinct : AreDistinct (names f.elements)
  pub texts : AllByRecursion IsWholeText f.elements
  pub in_order : AreOrdered f.connections
  pub few_elements : length f.elements ≤ most_elements
  pub few_connections : length f.connections ≤ most_connections
  pub short : element_sizes f.elements ≤ most_text

pub one_flat : (text : List ℕ) (f : Flat) (ss : List Statement) → IsItself f → AreLines text f.elements false f.elements f.connections ss → IsFlat (config_of text ss) f
one_flat text f ss i l =
    let c = config_of text ss in
    let h = says text f.elements f.connections ss l in
    let x : AreScopeElements f.elements (elements_of_scope c whole []) = rw h.declared (scope_elements_are [] 0 (plain_none text) l) in
    let g = primitive_elements_are c x in
    let a = g.are in
    let p = primitives x in
    let e : f.elements ≡ map flat_element g.primitive_elements = elements_are a in
    let n : length g.primitive_elements ≡ length f.elements = lengths_are g.primitive_elements ∙ ap (λ (es : List FlatElement). length es) (sym e) in
    let few : g.paths ≡ length f.elements = g.few in
    let few_elements : length f.elements ≤ 4096 = i.few_elements in
    let z : text_size g.primitive_elements ≡ element_sizes f.elements = sizes_are g.primitive_elements ∙ ap element_sizes (sym e) in
    let m : flat_names g.primitive_elements ≡ names f.elements = names_are g.primitive_elements ∙ ap names (sym e) in
    record {
      primitive_elements = g.primitive_elements;
      paths = g.paths;
      meant = record {
        sound = one_sound c f.elements f.connections i.distinct h;
        elements = g.grown;
        connections = record { sound = joins_all h a; complete = joins_only h p i.distinct a; in_order = i.in_order };
      };
      limits = record { elements = rw n i.few_elements; all_paths = omega arith; connections = i.few_connections; text = rw z i.short };
      distinct = rw m i.distinct;
      texts = All-from_recursion _ g.primitive_elements (whole_primitive_elements g.primitive_elements (rw (← e) i.texts));
      elements = e;
    }
