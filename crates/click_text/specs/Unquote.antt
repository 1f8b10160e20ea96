-- The bytes that an argument stands for, without its quotes (Click manual, "Configuration
-- strings").
use Rattle.std.specs.Prelude.{Vec, ◌≡◌, ℕ, ◌+◌, ◌*◌, List, [], ◌∷◌, ◌++◌, Bool, true, false, eqb, Option, Some, None, option_and_then, if◌then◌else◌}
use Rattle.std.specs.declared.alloc.Global.{Global}
use Rattle.click_base.specs.Numbers.{hex_digit_value}
use Rattle.click_text.specs.declared.items.ItemKind.{ItemKind}
use Rattle.click_text.specs.declared.items.ItemKind.TheVariants as kind
use Rattle.click_text.specs.declared.argument_bytes.Step.{Step}
use Rattle.click_text.specs.declared.argument_bytes.Escape.{Escape}
use Rattle.click_text.specs.declared.argument_bytes.Escape.TheVariants as escape
use Rattle.click_text.specs.Spans.{without_ends}
use Rattle.click_text.specs.Items.{Item, AreItems}

-- the byte that `\` and this byte stand for
abbrev pub escaped : ℕ → ℕ
escaped b = if eqb b 110 then 10 else if eqb b 114 then 13 else if eqb b 116 then 9 else b

abbrev pub to : Escape → Option ℕ → Step
to s b = record { state = s; adds = b }

-- the step of a first digit, and of a second
abbrev pub first_digit : Option ℕ → Option Step
first_digit (Some h) = Some (to (escape.Half h) None)
first_digit None = None

abbrev pub second_digit : ℕ → Option ℕ → Option Step
second_digit h (Some l) = Some (to escape.Digits (Some (16 * h + l)))
second_digit h None = None

-- the step that a byte makes; None is bad quoting
abbrev pub stepped : Escape → ℕ → Option Step
-- outside `\` and `\<..>`
stepped escape.Clear b = if eqb b 92 then Some (to escape.Backslash None) else Some (to escape.Clear (Some b))
-- after a `\`
stepped escape.Backslash b = if eqb b 60 then Some (to escape.Digits None) else Some (to escape.Clear (Some (escaped b)))
-- in `\<..>`, after an even number of digits
stepped escape.Digits b =
    if eqb b 62 then Some (to escape.Clear None) else if eqb b 32 then Some (to escape.Digits None) else first_digit (hex_digit_value b)
-- in `\<..>`, after an odd number of digits, the last of which has the value h
stepped (escape.Half h) b = if eqb b 32 then Some (to (escape.Half h) None) else second_digit h (hex_digit_value b)

-- the bytes that a step adds
abbrev pub added : Option ℕ → List ℕ
added (Some b) = b ∷ []
added None = []

-- the bytes p in front of others, if those exist
abbrev pub before : List ℕ → Option (List ℕ) → Option (List ℕ)
before p (Some q) = Some (p ++ q)
before p None = None

abbrev pub is_clear : Escape → Bool
is_clear escape.Clear = true
is_clear _ = false

-- the bytes that bytes with escapes stand for; nothing may be open at their end
abbrev pub unescaped : Escape → List ℕ → Option (List ℕ)
unescaped s [] = if is_clear s then Some [] else None
unescaped s (b ∷ p) = option_and_then (λ t. before (added t.adds) (unescaped t.state p)) (stepped s b)

-- the bytes that an item stands for
abbrev pub plain_item : ItemKind → List ℕ → Option (List ℕ)
plain_item kind.Comment p = Some (32 ∷ [])
plain_item kind.Double p = unescaped escape.Clear (without_ends p)
plain_item kind.Single p = Some (without_ends p)
plain_item kind.Hexadecimal p = unescaped escape.Clear p
plain_item _ p = Some p

-- the bytes that items stand for
abbrev pub plain_bytes : List Item → Option (List ℕ)
plain_bytes [] = Some []
plain_bytes (i ∷ items) = option_and_then (λ p. before p (plain_bytes items)) (plain_item i.kind i.bytes)

-- the bytes that an argument stands for; None is bad quoting
pub record StandsFor (text : List ℕ) (bytes : Option (List ℕ)) : Type 0 where
  pub items : List Item
  pub read : AreItems text items
  pub plain_is : bytes ≡ plain_bytes items

abbrev pub IsPlain : List ℕ → Option (Vec ℕ Global) → Type 0
IsPlain text (Some v) = StandsFor text (Some v.items)
IsPlain text None = StandsFor text None
