-- The values that words spell.
use Rattle.std.specs.Prelude.{ℕ, ◌+◌, ◌-◌, ◌*◌, ◌^◌, ◌==◌, List, length, take, drop, Bool, ◌&&◌, nat_le, nat_eq, bit_and, slice_index, position, Option, Some, None, option_map, option_and_then, if◌then◌else◌}
use Rattle.click_base.specs.Numbers.{decimal_in, hexadecimal_in}
use Rattle.click_patterns.specs.declared.token.Value.{Value}
use Rattle.click_patterns.specs.declared.token.Token.{Token}
use Rattle.click_patterns.specs.declared.token.Token.TheVariants as token
use Rattle.click_patterns.specs.Names.{ports, protocols, icmp_types, named, keywords, keyword}

-- the bytes begin with `0x`
abbrev pub is_marked : List ℕ → Bool
is_marked bytes = nat_le 2 (length bytes) && nat_eq (slice_index bytes 0) 48 && nat_eq (slice_index bytes 1) 120

-- the number that the bytes spell, if it is at most 65,535: decimal digits, or `0x` and hexadecimal
-- digits
abbrev pub number : List ℕ → Option ℕ
number bytes = if is_marked bytes then hexadecimal_in 65535 (drop 2 bytes) else decimal_in 65535 bytes

abbrev pub number_or : Option ℕ → Option ℕ → Option ℕ
number_or (Some n) other = Some n
number_or None other = other

-- a number of at most 255, or another reading of what is no number
abbrev pub small_or : Option ℕ → Option ℕ → Option ℕ
small_or (Some n) other = if nat_le n 255 then Some n else None
small_or None other = other

-- what a word that is no keyword can stand for
abbrev pub value : List ℕ → Value
value word = record {
  number = number word;
  port = number_or (number word) (named ports word);
  protocol = small_or (number word) (named protocols word);
  icmp_type = small_or (number word) (named icmp_types word);
}

-- one to three decimal digits that spell at most 255
abbrev pub octet : List ℕ → Option ℕ
octet bytes = if nat_le (length bytes) 3 then decimal_in 255 bytes else None

abbrev pub octet_at : List ℕ → Option ℕ → Option (ℕ × ℕ)
octet_at bytes (Some at) = option_map (λ x. (x, at)) (octet (take at bytes))
octet_at bytes None = None

-- the octet before the first `.`, and the index of that
unfoldable pub first_octet : List ℕ → Option (ℕ × ℕ)
first_octet bytes = octet_at bytes (position (λ b. b == 46) bytes)

abbrev pub fourth_of : List ℕ → ℕ → Option (ℕ × ℕ) → Option ℕ
fourth_of bytes n (Some p) = option_map (λ x. (n * 256 + p.0) * 256 + x) (octet (drop (p.1 + 1) bytes))
fourth_of bytes n None = None

abbrev pub third_of : List ℕ → ℕ → Option (ℕ × ℕ) → Option ℕ
third_of bytes n (Some p) = let rest = drop (p.1 + 1) bytes in fourth_of rest (n * 256 + p.0) (first_octet rest)
third_of bytes n None = None

abbrev pub second_of : List ℕ → Option (ℕ × ℕ) → Option ℕ
second_of bytes (Some p) = let rest = drop (p.1 + 1) bytes in third_of rest p.0 (first_octet rest)
second_of bytes None = None

-- four octets with `.` between them
unfoldable pub address : List ℕ → Option ℕ
address bytes = second_of bytes (first_octet bytes)

-- the mask whose first `len` bits are 1
unfoldable pub mask_of : ℕ → ℕ
mask_of len = 2 ^ 32 - 2 ^ (32 - len)

abbrev pub prefix_of : Option ℕ → Option ℕ → Option Token
prefix_of (Some a) (Some len) = Some (token.Prefix (bit_and a (mask_of len)) (mask_of len))
prefix_of (Some a) None = None
prefix_of None len = None

-- an address, `/` and a length of 0 to 32; bits behind the length count as 0
unfoldable pub prefix : List ℕ → Option Token
prefix bytes = option_and_then (λ at. prefix_of (address (take at bytes)) (decimal_in 32 (drop (at + 1) bytes))) (position (λ b. b == 47) bytes)

abbrev pub or_else : Option Token → Token → Token
or_else (Some t) other = t
or_else None other = other

-- the token of a word
unfoldable pub token_of : List ℕ → Token
token_of word = or_else (keyword keywords word) (or_else (option_map (λ a. token.Address a) (address word)) (or_else (prefix word) (token.Value (value word))))
