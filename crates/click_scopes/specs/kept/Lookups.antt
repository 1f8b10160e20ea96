-- What the code finds at a scope, or at an element of a scope.
use Rattle.std.specs.Prelude.{ℕ, List, [], slice_get, Option, Some, None}
use Rattle.click_base.specs.declared.class.Class.{Class}
use Rattle.click_text.specs.declared.syntax.Span.{Span}
use Rattle.click_text.specs.declared.syntax.Head.{Head}
use Rattle.click_scopes.specs.Elements.{string_or_empty}
use Rattle.click_scopes.specs.declared.classes.ResolvedClass.{ResolvedClass}
use Rattle.click_scopes.specs.declared.classes.ResolvedClass.TheVariants as class
use Rattle.click_scopes.specs.declared.scopes.Scope.{Scope as ScopeKept}
use Rattle.click_scopes.specs.declared.written_connections.WrittenConnection.{WrittenConnection}
use Rattle.click_scopes.specs.declared.scope_elements.ScopeElement.{ScopeElement as ScopeElementKept}

-- the index of the scope around a scope
abbrev pub parent_by : Option ScopeKept → ℕ
parent_by None = 0
parent_by (Some k) = k.parent

-- the elements and the connections of a scope
abbrev pub elements_by : Option ScopeKept → List ScopeElementKept
elements_by None = []
elements_by (Some k) = k.elements.items

abbrev pub connections_by : Option ScopeKept → List WrittenConnection
connections_by None = []
connections_by (Some k) = k.connections

-- the body that a class means
abbrev pub class_body : Option ResolvedClass → Option ℕ
class_body None = None
class_body (Some (class.Primitive s)) = None
class_body (Some (class.Compound b)) = Some b

abbrev pub scope_element_body : Option ScopeElementKept → Option ℕ
scope_element_body None = None
scope_element_body (Some l) = class_body l.class

abbrev pub scope_body : ℕ → Option ScopeKept → Option ℕ
scope_body i None = None
scope_body i (Some k) = scope_element_body (slice_get k.elements.items i)

-- the body that an element of a scope stands for
abbrev pub body_at : List ScopeKept → ℕ → ℕ → Option ℕ
body_at scopes s i = scope_body i (slice_get scopes s)

-- the router's class of an element
abbrev pub class_kept : Option ResolvedClass → Option Class
class_kept (Some (class.Primitive w)) = Some w
class_kept (Some (class.Compound b)) = None
class_kept None = None

abbrev pub class_by : Option ScopeElementKept → Option Class
class_by None = None
class_by (Some l) = class_kept l.class

abbrev pub class_found : Option ScopeKept → ℕ → Option Class
class_found None element = None
class_found (Some k) element = class_by (slice_get k.elements.items element)

-- the name of an element in its scope
abbrev pub local_name : Option ScopeElementKept → List ℕ
local_name None = []
local_name (Some l) = l.name.items

abbrev pub scope_name : ℕ → Option ScopeKept → List ℕ
scope_name i None = []
scope_name i (Some k) = local_name (slice_get k.elements.items i)

-- the head of an element
abbrev pub scope_element_head : Option ScopeElementKept → Option Head
scope_element_head None = None
scope_element_head (Some l) = Some l.head

abbrev pub scope_head : ℕ → Option ScopeKept → Option Head
scope_head i None = None
scope_head i (Some k) = scope_element_head (slice_get k.elements.items i)

-- the spans of an element's arguments; none if there is no such element
abbrev pub spans_by : Option ScopeElementKept → List Span
spans_by None = []
spans_by (Some l) = l.arguments

abbrev pub spans_found : Option ScopeKept → ℕ → List Span
spans_found None element = []
spans_found (Some k) element = spans_by (slice_get k.elements.items element)

-- the configuration string of an element
abbrev pub string_kept : List ℕ → Option ScopeElementKept → List ℕ
string_kept text None = []
string_kept text (Some l) = string_or_empty text l.text

abbrev pub string_found : List ℕ → Option ScopeKept → ℕ → List ℕ
string_found text None element = []
string_found text (Some k) element = string_kept text (slice_get k.elements.items element)
