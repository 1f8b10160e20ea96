-- Parameters in configuration strings (Click manual, "Compound elements"): `$x` or `${x}` outside
-- quotes and comments.
use Rattle.std.specs.Prelude.{◌≡◌, ℕ, ◌+◌, ◌-◌, List, [], ◌∷◌, ◌++◌, length, take_while, drop, Bool, false, eqb, Option, Some, None, if◌then◌else◌}
use Rattle.std.specs.Str.{bytes_eq}
use Rattle.click_text.specs.declared.syntax.Span.{Span}
use Rattle.click_text.specs.declared.syntax.Config.{Config}
use Rattle.click_text.specs.declared.items.ItemKind.{ItemKind}
use Rattle.click_text.specs.declared.items.ItemKind.TheVariants as kind
use Rattle.click_text.specs.Items.{Item, AreItems, bytes_of}
use Rattle.click_text.specs.Pieces.{name_byte}
use Rattle.click_text.specs.Spans.{bytes_at}
use Rattle.click_scopes.specs.Scopes.{Scope, whole, inside, formals_of}

-- the byte of the item, if it is outside quotes and comments
abbrev pub byte_of : ItemKind → Option ℕ
byte_of (kind.Byte b) = Some b
byte_of _ = None

abbrev pub byte_passes : (ℕ → Bool) → Option ℕ → Bool
byte_passes test None = false
byte_passes test (Some b) = test b

abbrev pub is_byte : ℕ → Item → Bool
is_byte b i = byte_passes (eqb b) (byte_of i.kind)

abbrev pub is_name_item : Item → Bool
is_name_item i = byte_passes name_byte (byte_of i.kind)

-- the longest run of name bytes
abbrev pub name_run : List Item → List Item
name_run items = take_while is_name_item items

-- A parameter at the beginning of items: its name, and its number of items. It is `$x` or `${x}`.
pub record Formal : Type 0 where
  pub name : List ℕ
  pub size : ℕ

abbrev pub formal : List Item → ℕ → Option Formal
formal [] extra = None
formal (i ∷ run) extra = Some (record { name = bytes_of (i ∷ run); size = length (i ∷ run) + extra })

abbrev pub is_closed : List Item → Bool
is_closed [] = false
is_closed (i ∷ items) = is_byte 125 i

-- the parameter after `$`
abbrev pub formal_behind : List Item → Option Formal
formal_behind [] = None
formal_behind (i ∷ items) =
    if is_byte 123 i
    then (if is_closed (drop (length (name_run items)) items) then formal (name_run items) 3 else None)
    else formal (name_run (i ∷ items)) 1

abbrev pub formal_at : List Item → Option Formal
formal_at [] = None
formal_at (i ∷ items) = if is_byte 36 i then formal_behind items else None

-- the value of a parameter, and its number of items; a parameter without a value is not replaced
abbrev pub value_by : (List ℕ → Option (List ℕ)) → Option Formal → Option (List ℕ × ℕ)
value_by value None = None
value_by value (Some f) = elim (value f.name) [ None ↦ None | Some v ↦ Some (v, f.size) ]

abbrev pub found_bytes : Option (List ℕ × ℕ) → Item → List ℕ
found_bytes None i = i.bytes
found_bytes (Some v) i = v.0

abbrev pub found_size : Option (List ℕ × ℕ) → ℕ
found_size None = 1
found_size (Some v) = v.1

-- the bytes of items, with each parameter that has a value replaced by it; the first n items belong
-- to a parameter before
unfoldable pub replaced : (List ℕ → Option (List ℕ)) → ℕ → List Item → List ℕ
replaced value n [] = []
replaced value n (i ∷ items) =
    if eqb n 0
    then found_bytes (value_by value (formal_at (i ∷ items))) i ++ replaced value (found_size (value_by value (formal_at (i ∷ items))) - 1) items
    else replaced value (n - 1) items

-- the arguments of instances of bodies, by the index of the body
abbrev pub Bindings : Type 0
Bindings = List (ℕ × List (List ℕ))

abbrev pub arguments_for : Bindings → ℕ → List (List ℕ)
arguments_for [] b = []
arguments_for (x ∷ xs) b = if eqb x.0 b then x.1 else arguments_for xs b

-- the argument for the parameter with this name; the span of a parameter begins with `$`
abbrev pub argument_of : List ℕ → List Span → List (List ℕ) → List ℕ → Option (List ℕ)
argument_of text [] values name = None
argument_of text (f ∷ fs) [] name = None
argument_of text (f ∷ fs) (v ∷ values) name = if bytes_eq (drop 1 (bytes_at text f)) name then Some v else argument_of text fs values name

abbrev pub first_value : Option (List ℕ) → Option (List ℕ) → Option (List ℕ)
first_value None o = o
first_value (Some v) o = Some v

abbrev pub scope_value : Config → Bindings → Scope → List ℕ → Option (List ℕ)
scope_value c bindings whole name = None
scope_value c bindings (inside b) name = argument_of c.text (formals_of c (inside b)) (arguments_for bindings b) name

-- the argument of the nearest of these bodies that has the parameter
abbrev pub value_in : Config → Bindings → List Scope → List ℕ → Option (List ℕ)
value_in c bindings [] name = None
value_in c bindings (s ∷ enclosing) name = first_value (scope_value c bindings s name) (value_in c bindings enclosing name)

-- the text with the parameters of the bodies around it replaced
pub record IsReplaced (c : Config) (bindings : Bindings) (enclosing : List Scope) (text result : List ℕ) : Type 0 where
  pub items : List Item
  pub read : AreItems text items
  pub replaces : result ≡ replaced (value_in c bindings enclosing) 0 items
