-- Whether a test holds for a packet. A comparison with a part that is not there does not hold.
use Rattle.std.specs.Prelude.{ℕ, ◌/◌, ◌%◌, List, Bool, false, not, ◌||◌, ◌&&◌, nat_eq, nat_lt, nat_le, bit_and, Option, Some, None, option_map}
use Rattle.click_filter.specs.declared.test.Relation.{Relation}
use Rattle.click_filter.specs.declared.test.Relation.TheVariants as relation
use Rattle.click_filter.specs.declared.test.Direction.{Direction}
use Rattle.click_filter.specs.declared.test.Direction.TheVariants as direction
use Rattle.click_filter.specs.declared.test.Flag.{Flag}
use Rattle.click_filter.specs.declared.test.Flag.TheVariants as flag
use Rattle.click_filter.specs.declared.test.Field.{Field}
use Rattle.click_filter.specs.declared.test.Field.TheVariants as field_of
use Rattle.click_filter.specs.declared.test.Test.{Test}
use Rattle.click_filter.specs.declared.test.Test.TheVariants as test
use Rattle.click_filter.specs.Packets.{byte_at, word_at, address_at, fragment_word, is_fragment, port, tcp_flags, icmp_type}

-- the number of a packet, compared with the number of a test
abbrev pub relates : Relation → ℕ → ℕ → Bool
relates relation.Equal found n = nat_eq found n
relates relation.NotEqual found n = not (nat_eq found n)
relates relation.Less found n = nat_lt found n
relates relation.LessOrEqual found n = nat_le found n
relates relation.Greater found n = nat_lt n found
relates relation.GreaterOrEqual found n = nat_le n found

abbrev pub compares : Relation → Option ℕ → ℕ → Bool
compares r (Some found) n = relates r found n
compares r None n = false

-- the outcomes for the source and for the destination, joined
abbrev pub ends : Direction → Bool → Bool → Bool
ends direction.Source s d = s
ends direction.Destination s d = d
ends direction.Either s d = s || d
ends direction.Both s d = s && d

-- How a comparison of ports joins both ends: as its direction says. With `!=`, either end and both
-- ends change places, so that `!=` is the contrary of `=`.
abbrev pub joined : Direction → Relation → Direction
joined direction.Either relation.NotEqual = direction.Both
joined direction.Both relation.NotEqual = direction.Either
joined d r = d

-- an address, in the bits of the mask
abbrev pub is_in : Option ℕ → ℕ → ℕ → Bool
is_in (Some found) address mask = nat_eq (bit_and found mask) address
is_in None address mask = false

-- the bits of the flags (RFC 793, section 3.1)
abbrev pub bit : Flag → ℕ
bit flag.Fin = 1
bit flag.Syn = 2
bit flag.Rst = 4
bit flag.Psh = 8
bit flag.Ack = 16
bit flag.Urg = 32

abbrev pub has_bit : Option ℕ → ℕ → Bool
has_bit (Some flags) mask = not (nat_eq (bit_and flags mask) 0)
has_bit None mask = false

-- the numbers in the fixed part of the header (RFC 791, section 3.1; RFC 2474; RFC 3168)
abbrev pub field : Field → List ℕ → Option ℕ
field field_of.Version b = option_map (λ byte. byte / 16) (byte_at 0 b)
field field_of.HeaderLength b = option_map (λ byte. byte % 16) (byte_at 0 b)
field field_of.Tos b = byte_at 1 b
field field_of.Dscp b = option_map (λ byte. byte / 4) (byte_at 1 b)
field field_of.Ecn b = option_map (λ byte. byte % 4) (byte_at 1 b)
field field_of.Length b = word_at 2 b
field field_of.Id b = word_at 4 b
field field_of.Ttl b = byte_at 8 b

abbrev pub holds : Test → List ℕ → Bool
holds (test.Constant value) b = value
holds (test.Net d address mask) b = ends d (is_in (address_at 12 b) address mask) (is_in (address_at 16 b) address mask)
holds (test.Protocol n) b = compares relation.Equal (byte_at 9 b) n
holds (test.Port t d r n) b = ends (joined d r) (compares r (port t 0 b) n) (compares r (port t 2 b) n)
holds (test.IcmpType r n) b = compares r (icmp_type b) n
holds (test.TcpFlag f) b = has_bit (tcp_flags b) (bit f)
holds (test.Field f r n) b = compares r (field f b) n
holds test.Fragment b = is_fragment (fragment_word b)
holds test.Unfragmented b = not (is_fragment (fragment_word b))
