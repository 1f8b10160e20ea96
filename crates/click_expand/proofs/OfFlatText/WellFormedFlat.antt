-- In the flat form of a configuration that a text spells, names are words and ports are below 256.
use Rattle.std.proofs.Common.{◌≡◌, ℕ, zero, suc, ◌<◌, List, [], ◌∷◌, ◌++◌, length, map, drop, Bool, Option, Some, None, refl, sym, arith}
use Rattle.std.specs.Prelude.{slice_get, codes}
use Rattle.std.specs.List.{AllByRecursion}
use Rattle.std.proofs.lemmas.Option.{slice_get_within}
use Rattle.std.proofs.lemmas.List.Elements.{recursion_from_All, All-from_recursion, All-contains, All-contains_itself}
use Rattle.click_text.specs.declared.syntax.Span.{Span}
use Rattle.click_text.specs.declared.syntax.WrittenPort.{WrittenPort}
use Rattle.click_text.specs.declared.syntax.Head.{Head}
use Rattle.click_text.specs.declared.syntax.Head.TheVariants as head
use Rattle.click_text.specs.declared.syntax.Element.{Element}
use Rattle.click_text.specs.declared.syntax.Link.{Link}
use Rattle.click_text.specs.declared.syntax.Statement.{Statement}
use Rattle.click_text.specs.declared.syntax.Statement.TheVariants as statement
use Rattle.click_text.specs.declared.syntax.Body.{Body}
use Rattle.click_text.specs.declared.syntax.Config.{Config}
use Rattle.click_text.specs.Grammar.{element}
use Rattle.click_text.specs.Spans.{bytes_at}
use Rattle.click_text.specs.Spelling.{Spells}
use Rattle.click_expand.specs.declared.flat.Connection.{Connection}
use Rattle.click_expand.specs.declared.flat.Flat.{Flat}
use Rattle.click_scopes.specs.Scopes.{Scope, whole, inside, statements_of, body_statements, statement_elements, is_body}
use Rattle.click_scopes.specs.Elements.{Placed, place, placed, Role, makes, refers, pseudo, role, made_name, ScopeElement, scope_element, scope_element_by, count_with, scope_elements_from}
use Rattle.click_scopes.specs.Faults.{End, WrittenConnection, ScopeNames, written_end, scope_names, number_behind, port_number, written_connections_behind, written_connections_from, statement_connections, scope_connections, elements_of_scope, scope_declared, scope_placed}
use Rattle.click_expand.specs.Instances.{PrimitiveElement, ArePrimitiveElements, no_elements, primitive_element, branch}
use Rattle.click_expand.specs.Connections.{Node, output_of, input_of, begin_node, end_node, Leads, by_connection, further}
use Rattle.click_expand.specs.Flat.{flat_name, IsFlat}
use Rattle.click_expand.proofs.OfFlatText.NameWords.{IsName, numbered_name, path_name}
use Rattle.click_expand.proofs.OfFlatText.WellFormedTokens.{RightHead, RightPort, RightLink, RightStatement, RightBody, right_tokens, right_text}

-- in the configuration, names are words and ports are below 256
pub record IsRight (c : Config) : Type 0 where
  pub statements : AllByRecursion (RightStatement c.text) c.statements
  pub bodies : AllByRecursion (RightBody c.text) c.bodies

pub spelled_right : (text : List ℕ) (c : Config) → Spells text c → IsRight c
spelled_right text c s =
    let e : text ≡ drop 0 c.text = sym s.copy in
    let x = right_text c.text s.tree (right_tokens c.text e s.pieces) in
    record { statements = x.0; bodies = x.1 }

pub all_map : {X Y : Type 0} (P : Y → Type 0) (f : X → Y) (xs : List X) → AllByRecursion (λ x. P (f x)) xs → AllByRecursion P (map f xs)
all_map P f [] a = tt
all_map P f (x ∷ xs) a = (a.0, all_map P f xs a.1)

all_append : {X : Type 0} (P : X → Type 0) (xs ys : List X) → AllByRecursion P xs → AllByRecursion P ys → AllByRecursion P (xs ++ ys)
all_append P [] ys a b = b
all_append P (x ∷ xs) ys a b = (a.0, all_append P xs ys a.1 b)

pub all_weaker : {X : Type 0} (P Q : X → Type 0) → ((x : X) → P x → Q x) → (xs : List X) → AllByRecursion P xs → AllByRecursion Q xs
all_weaker P Q f [] a = tt
all_weaker P Q f (x ∷ xs) a = (f x a.0, all_weaker P Q f xs a.1)

body_right : (text : List ℕ) (bs : List Body) (b : ℕ) → AllByRecursion (RightBody text) bs → AllByRecursion (RightStatement text) (body_statements (slice_get bs b))
body_right text [] b a = tt
body_right text (x ∷ bs) zero a = a.0
body_right text (x ∷ bs) (suc b) a = body_right text bs b a.1

scope_right : (c : Config) → IsRight c → (s : Scope) → AllByRecursion (RightStatement c.text) (statements_of c s)
scope_right c r whole = r.statements
scope_right c r (inside b) = body_right c.text c.bodies b r.bodies

abbrev RightElement : List ℕ → Element → Type 0
RightElement text e = RightHead text e.head

abbrev RightPlaced : List ℕ → Placed → Type 0
RightPlaced text p = RightHead text p.element.head

elements_right : (text : List ℕ) (s : Statement) → RightStatement text s → AllByRecursion (RightElement text) (statement_elements s)
elements_right text (statement.Chain c) a =
    (a.0, all_map (RightElement text) (λ (l : Link). l.element) c.links (all_weaker (RightLink text) (λ (l : Link). RightElement text l.element) (λ l x. x.2) c.links a.1))
elements_right text (statement.Declaration d) a = all_map (RightElement text) (λ (n : Span). element (head.Declared n d.class) d.text) d.names a
elements_right text (statement.Definition n b) a = tt
elements_right text (statement.Synonym n c) a = tt
elements_right text (statement.Requirement t) a = tt

placed_right : (text : List ℕ) (visible ss : List Statement) → AllByRecursion (RightStatement text) ss → AllByRecursion (RightPlaced text) (placed visible ss)
placed_right text visible [] a = tt
placed_right text visible (s ∷ ss) a =
    all_append (RightPlaced text) (map (place visible) (statement_elements s)) (placed (s ∷ visible) ss)
    (all_map (RightPlaced text) (place visible) (statement_elements s) (elements_right text s a.0)) (placed_right text (s ∷ visible) ss a.1)

-- an element of a scope, by its name
pub record RightScopeElement (l : ScopeElement) : Type 0 where
  pub name_right : IsName l.name

compound_name : IsName (codes "Compound")
compound_name = (refl, refl, λ e. cc, λ e. cc)

made_right : (text : List ℕ) (n : ℕ) (h : Head) → RightHead text h → IsName (made_name text n h)
made_right text n (head.Word s) r = numbered_name (bytes_at text s) n r
made_right text n (head.Declared s c) r = r
made_right text n (head.Compound b) r = numbered_name (codes "Compound") n compound_name

scope_element_right : (text : List ℕ) (n : ℕ) (p : Placed) → RightPlaced text p → RightScopeElement (scope_element text n p)
scope_element_right text n p r = record { name_right = made_right text n p.element.head r }

by_right : (r : Role) (l : ScopeElement) (ls : List ScopeElement) → RightScopeElement l → AllByRecursion RightScopeElement ls → AllByRecursion RightScopeElement (scope_element_by r l ls)
by_right makes l ls h a = (h, a)
by_right refers l ls h a = a
by_right pseudo l ls h a = a

scope_elements_right : (text : List ℕ) (in_body : Bool) (declared : List (List ℕ)) (n : ℕ) (ps : List Placed) → AllByRecursion (RightPlaced text) ps → AllByRecursion RightScopeElement (scope_elements_from text in_body declared n ps)
unfolding scope_elements_from
scope_elements_right text in_body declared n [] a = tt
scope_elements_right text in_body declared n (p ∷ ps) a =
    let r = role text in_body declared p.element in
    by_right r (scope_element text n p) (scope_elements_from text in_body declared (count_with r n) ps) (scope_element_right text n p a.0) (scope_elements_right text in_body declared (count_with r n) ps a.1)

elements_of_scope_right : (c : Config) → IsRight c → (s : Scope) (visible : List Statement) → AllByRecursion RightScopeElement (elements_of_scope c s visible)
elements_of_scope_right c r s visible = scope_elements_right c.text (is_body s) (scope_declared c s visible) 0 (scope_placed c s visible) (placed_right c.text visible (statements_of c s) (scope_right c r s))

path_at : (path : List (List ℕ)) (n : List ℕ) → AllByRecursion IsName path → IsName n → IsName (flat_name (path ++ n ∷ []))
path_at [] n a h = h
path_at (m ∷ ms) n a h = path_name m (ms ++ n ∷ []) (a.0, all_append IsName ms (n ∷ []) a.1 (h, tt))

pub record RightPrimitiveElement (l : PrimitiveElement) : Type 0 where
  pub name_right : IsName (flat_name l.path)

primitive_elements_right : {c : Config} {s : Scope} {enclosing : List Scope} {path : List (List ℕ)} {bindings : _} {ls : List ScopeElement} {primitive_elements : List PrimitiveElement} {n : ℕ} → IsRight c → ArePrimitiveElements c s enclosing path bindings ls primitive_elements n →
    AllByRecursion IsName path → AllByRecursion RightScopeElement ls → AllByRecursion RightPrimitiveElement primitive_elements
primitive_elements_right r (no_elements s enclosing path bindings) p a = tt
primitive_elements_right r (primitive_element s enclosing path bindings l ls class text primitive_elements n m i g) p a =
    (record { name_right = path_at path l.name p a.0.name_right }, primitive_elements_right r g p a.1)
primitive_elements_right {c} r (branch s enclosing path bindings l ls b visible outer spans values inner primitive_elements m n e x v st g h) p a =
    all_append RightPrimitiveElement inner primitive_elements
    (primitive_elements_right r g (all_append IsName path (l.name ∷ []) p (a.0.name_right, tt)) (elements_of_scope_right c r (inside b) visible))
    (primitive_elements_right r h p a.1)

-- ports
pub record RightWrittenConnection (j : WrittenConnection) : Type 0 where
  pub out_small : j.out_port < 256
  pub in_small : j.in_port < 256

port_small : (p : Option WrittenPort) → RightPort p → port_number p < 256
port_small None h = omega arith
port_small (Some p) h = h

behind_right : (c : Config) (names : ScopeNames) (visible : List Statement) (n : ℕ) (a : End) (ls : List Link) → AllByRecursion (RightLink c.text) ls → AllByRecursion RightWrittenConnection (written_connections_behind c names visible n a ls)
unfolding written_connections_behind
behind_right c names visible n a [] r = tt
behind_right c names visible n a (l ∷ ls) r = (
  record { out_small = port_small l.from r.0.0; in_small = port_small l.to r.0.1 },
  behind_right c names visible (number_behind c names n (place visible l.element)) (written_end c names n (place visible l.element)) ls r.1,
)

statement_right : (c : Config) (names : ScopeNames) (visible : List Statement) (n : ℕ) (s : Statement) → RightStatement c.text s → AllByRecursion RightWrittenConnection (statement_connections c names visible n s)
statement_right c names visible n (statement.Chain k) r = behind_right c names visible _ _ k.links r.1
statement_right c names visible n (statement.Declaration d) r = tt
statement_right c names visible n (statement.Definition m b) r = tt
statement_right c names visible n (statement.Synonym m d) r = tt
statement_right c names visible n (statement.Requirement t) r = tt

written_connections_right : (c : Config) (names : ScopeNames) (visible : List Statement) (n : ℕ) (ss : List Statement) → AllByRecursion (RightStatement c.text) ss → AllByRecursion RightWrittenConnection (written_connections_from c names visible n ss)
unfolding written_connections_from
written_connections_right c names visible n [] r = tt
written_connections_right c names visible n (s ∷ ss) r =
    all_append RightWrittenConnection (statement_connections c names visible n s) _ (statement_right c names visible n s r.0) (written_connections_right c names (s ∷ visible) _ ss r.1)

abbrev node_port : Node → ℕ
node_port (output_of path n) = n
node_port (input_of path n) = n

begins_port : (path : List (List ℕ)) (e : End) (r : Role) (n : ℕ) → node_port (begin_node path e r n) ≡ n
begins_port path e makes n = refl
begins_port path e refers n = refl
begins_port path e pseudo n = refl

ends_port : (path : List (List ℕ)) (e : End) (r : Role) (n : ℕ) → node_port (end_node path e r n) ≡ n
ends_port path e makes n = refl
ends_port path e refers n = refl
ends_port path e pseudo n = refl

pub leads_right : {c : Config} {a b : Node} → IsRight c → Leads c a b → (node_port a < 256) × (node_port b < 256)
leads_right {c} r (by_connection path s visible j t m) =
    let js = scope_connections c s visible in
    let x = All-contains RightWrittenConnection js j (All-from_recursion RightWrittenConnection js (written_connections_right c (scope_names c s visible) visible 0 (statements_of c s) (scope_right c r s))) m in
    (rw (begins_port path j.from j.from.role j.out_port) x.out_small, rw (ends_port path j.to j.to.role j.in_port) x.in_small)
leads_right r (further a b d l m) = let x = leads_right r l in let y = leads_right r m in (x.0, y.1)

-- a connection of a flat form
pub record RightConnection (n : ℕ) (k : Connection) : Type 0 where
  pub from_there : k.from < n
  pub to_there : k.to < n
  pub out_small : k.out_port < 256
  pub in_small : k.in_port < 256

pub flat_primitive_elements : {c : Config} {f : Flat} → IsRight c → (h : IsFlat c f) → AllByRecursion RightPrimitiveElement h.primitive_elements
flat_primitive_elements {c} r h = primitive_elements_right r h.meant.elements tt (elements_of_scope_right c r whole [])

pub flat_connections : {c : Config} {f : Flat} → IsRight c → (h : IsFlat c f) → AllByRecursion (RightConnection (length h.primitive_elements)) f.connections
flat_connections {c} {f} r h =
    let P : Connection → Type 0 = RightConnection (length h.primitive_elements) in
    recursion_from_All P f.connections (λ i d l.
    let k = All-contains_itself f.connections i d l in
    let j = h.meant.connections.sound _ k in
    let x = leads_right r j.leads in
    record { from_there = slice_get_within h.primitive_elements _ j.from j.from_there; to_there = slice_get_within h.primitive_elements _ j.to j.to_there; out_small = x.0; in_small = x.1 })
