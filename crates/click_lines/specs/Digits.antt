-- Packets and bytes as hex digits.
use Rattle.std.specs.Prelude.{◌≡◌, ◌≢◌, ◌⊎◌, ◌<◌, ◌≤◌, ◌%◌, ℕ, List, [], ◌∷◌, length, codes, Ok, Err}
use Rattle.hex.specs.Hex.{encode_lower, decode_of}
use Rattle.hex.specs.declared.error.FromHexError.{FromHexError}
use Rattle.hex.specs.declared.error.FromHexError.TheVariants.{OddLength}
use Rattle.click_packet.specs.Packet.{Packet, longest_packet}
use Rattle.click_lines.specs.declared.digits.HexFault.{HexFault}
use Rattle.click_lines.specs.declared.digits.HexFault.TheVariants as fault

-- two digits for each byte, in lower case; a hyphen for no bytes
abbrev pub hex_text : List ℕ → List ℕ
hex_text [] = codes "-"
hex_text (b ∷ bs) = encode_lower (b ∷ bs)

-- the text is a hyphen and there are no bytes, or it is their digits, in either case
abbrev pub IsHex : List ℕ → List ℕ → Type 0
IsHex text bytes = ((text ≡ codes "-") × (bytes ≡ [])) ⊎ ((text ≢ []) × (decode_of text ≡ Ok bytes))

-- a packet with the bytes of the text, and with the annotations of a packet that enters
abbrev pub IsPacketOf : List ℕ → Packet → Type 0
IsPacketOf text p = IsHex text p.bytes × (p.paint ≡ 0) × (p.destination ≡ 0 ∷ 0 ∷ 0 ∷ 0 ∷ [])

-- no packet has bytes with this text
abbrev pub SpellsNone : List ℕ → Type 0
SpellsNone text = (bytes : List ℕ) → length bytes ≤ longest_packet → IsHex text bytes → ⊥

-- Why the text is not a packet. It is out of memory, which only pairs of digits can lead to; or no
-- packet has this text, for a reason that is true of the text.
abbrev pub IsNoPacket : List ℕ → HexFault → Type 0
IsNoPacket text fault.NoMemory = (text ≢ []) × (length text % 2 ≡ 0)
IsNoPacket text fault.NoDigits = SpellsNone text × (text ≡ [])
IsNoPacket text fault.OddDigits = SpellsNone text × (decode_of text ≡ Err OddLength)
IsNoPacket text fault.NoDigit = SpellsNone text × ((e : FromHexError) × (decode_of text ≡ Err e) × (e ≢ OddLength))
IsNoPacket text fault.TooLong = SpellsNone text × ((bytes : List ℕ) × (decode_of text ≡ Ok bytes) × (longest_packet < length bytes))
