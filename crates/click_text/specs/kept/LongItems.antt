-- When `first_item` returns an item of one byte.
use Rattle.std.specs.Prelude.{ℕ, ◌<◌, ◌≤◌, List, length, take}
use Rattle.click_text.specs.declared.items.ItemKind.{ItemKind}
use Rattle.click_text.specs.Items.{IsItem}

-- no item of more than one byte begins the text
abbrev pub NoLongItem : List ℕ → Type 0
NoLongItem text = (j : ItemKind) (m : ℕ) → 1 < m → m ≤ length text → IsItem j (take m text) → ⊥
