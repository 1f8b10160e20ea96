-- Numbers in the byte order of a capture.
use Rattle.std.specs.Prelude.{ℕ, List}
use Rattle.std.specs.Int.{w16, w32, to_le_bytes, to_be_bytes}
use Rattle.click_capture.specs.declared.order.Order.{Order}
use Rattle.click_capture.specs.declared.order.Order.TheVariants as order

-- a number as four bytes
abbrev pub word : Order → ℕ → List ℕ
word order.Little n = to_le_bytes w32 n
word order.Big n = to_be_bytes w32 n

-- a number as two bytes
abbrev pub half : Order → ℕ → List ℕ
half order.Little n = to_le_bytes w16 n
half order.Big n = to_be_bytes w16 n
