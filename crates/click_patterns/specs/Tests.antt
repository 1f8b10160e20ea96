-- The tests that words spell, by the words from left to right.
use Rattle.std.specs.Prelude.{ℕ, List, [], ◌∷◌, drop, slice_get, nat_le, bit_and, Option, Some, None, if◌then◌else◌}
use Rattle.click_filter.specs.declared.test.Test.{Test}
use Rattle.click_filter.specs.declared.test.Test.TheVariants as test
use Rattle.click_filter.specs.declared.test.Direction.{Direction}
use Rattle.click_filter.specs.declared.test.Direction.TheVariants as direction
use Rattle.click_filter.specs.declared.test.Transport.{Transport}
use Rattle.click_filter.specs.declared.test.Transport.TheVariants as transport
use Rattle.click_filter.specs.declared.test.Relation.{Relation}
use Rattle.click_filter.specs.declared.test.Relation.TheVariants as relation
use Rattle.click_filter.specs.declared.test.Field.{Field}
use Rattle.click_filter.specs.declared.test.Field.TheVariants as field
use Rattle.click_patterns.specs.declared.token.Join.TheVariants as join
use Rattle.click_patterns.specs.declared.token.Token.{Token}
use Rattle.click_patterns.specs.declared.token.Token.TheVariants as token

-- a test without further words
abbrev pub alone : Test → List Token → Option Test
alone t [] = Some t
alone t (word ∷ words) = None

-- the number, if it is at most `high`
abbrev pub within : Option ℕ → ℕ → Option ℕ
within (Some n) high = if nat_le n high then Some n else None
within None high = None

-- ---- directions

unfoldable pub both_ends : Option Token → Option Token → List Token → List Token → Direction × List Token
both_ends (Some (token.Join join.Or)) (Some token.Dst) words behind = (direction.Either, behind)
both_ends (Some (token.Join join.And)) (Some token.Dst) words behind = (direction.Both, behind)
both_ends _ _ words behind = (direction.Source, words)

unfoldable pub direction_from : Option Token → List Token → List Token → Direction × List Token
direction_from (Some token.Dst) all words = (direction.Destination, words)
direction_from (Some token.Src) all words = both_ends (slice_get words 0) (slice_get (drop 1 words) 0) words (drop 1 (drop 1 words))
direction_from _ all words = (direction.Either, all)

-- the direction with which the words begin, and the words behind it: `src`, `dst`, `src or dst` or
-- `src and dst`; without a direction it is either end
unfoldable pub direction_of : List Token → Direction × List Token
direction_of words = direction_from (slice_get words 0) words (drop 1 words)

-- ---- comparisons

unfoldable pub compared_from : Option Token → List Token → List Token → Relation × List Token
compared_from (Some (token.Relation r)) all words = (r, words)
compared_from _ all words = (relation.Equal, all)

-- the relation with which the words begin, and the words behind it; without a relation it is `=`
unfoldable pub relation_of : List Token → Relation × List Token
relation_of words = compared_from (slice_get words 0) words (drop 1 words)

-- the readings of a word
unfoldable pub number_of : Option Token → Option ℕ
number_of (Some (token.Value v)) = v.number
number_of _ = None

unfoldable pub port_of : Option Token → Option ℕ
port_of (Some (token.Value v)) = v.port
port_of _ = None

unfoldable pub icmp_type_of : Option Token → Option ℕ
icmp_type_of (Some (token.Value v)) = v.icmp_type
icmp_type_of _ = None

unfoldable pub protocol_of : Option Token → Option ℕ
protocol_of (Some token.Tcp) = Some 6
protocol_of (Some token.Udp) = Some 17
protocol_of (Some token.Icmp) = Some 1
protocol_of (Some (token.Value v)) = v.protocol
protocol_of _ = None

-- a test with this number, if there is one, without further words
unfoldable pub with_number : Option ℕ → (ℕ → Test) → List Token → Option Test
with_number (Some n) make words = alone (make n) words
with_number None make words = None

-- `port`, behind which an optional relation and a port stand
unfoldable pub port_test : Transport → Direction → List Token → Option Test
port_test t d words = let r = relation_of words in with_number (port_of (slice_get r.1 0)) (λ n. test.Port t d r.0 n) (drop 1 r.1)

-- `icmp type`, behind which an optional relation and a type stand
unfoldable pub icmp_type_test : List Token → Option Test
icmp_type_test words = let r = relation_of words in with_number (icmp_type_of (slice_get r.1 0)) (λ n. test.IcmpType r.0 n) (drop 1 r.1)

-- the greatest values of the fields
unfoldable pub greatest : Field → ℕ
greatest field.Version = 15
greatest field.HeaderLength = 15
greatest field.Tos = 255
greatest field.Dscp = 63
greatest field.Ecn = 3
greatest field.Length = 65535
greatest field.Id = 65535
greatest field.Ttl = 255

-- `ip` and a field, behind which an optional relation and a number stand
unfoldable pub field_test : Field → List Token → Option Test
field_test f words = let r = relation_of words in with_number (within (number_of (slice_get r.1 0)) (greatest f)) (λ n. test.Field f r.0 n) (drop 1 r.1)

-- ---- addresses

unfoldable pub masked_by : Direction → ℕ → Option Token → Option Token → List Token → Option Test
masked_by d a (Some token.Mask) (Some (token.Address m)) words = alone (test.Net d (bit_and a m) m) words
masked_by d a _ _ words = None

-- the mask of one address
abbrev pub whole : ℕ
whole = 4294967295

-- behind `net`: a prefix, or an address, `mask` and an address
unfoldable pub net_test : Direction → Option Token → List Token → Option Test
net_test d (Some (token.Prefix a m)) words = alone (test.Net d a m) words
net_test d (Some (token.Address a)) words = masked_by d a (slice_get words 0) (slice_get (drop 1 words) 0) (drop 1 (drop 1 words))
net_test d _ words = None

-- behind `host`: an address
unfoldable pub host_test : Direction → Option Token → List Token → Option Test
host_test d (Some (token.Address a)) words = alone (test.Net d a whole) words
host_test d _ words = None

-- behind a direction: `port`, `host`, `net`, an address or a prefix
unfoldable pub ends_test : Direction → Option Token → List Token → Option Test
ends_test d (Some token.Port) words = port_test transport.TcpOrUdp d words
ends_test d (Some token.Host) words = host_test d (slice_get words 0) (drop 1 words)
ends_test d (Some token.Net) words = net_test d (slice_get words 0) (drop 1 words)
ends_test d (Some (token.Address a)) words = alone (test.Net d a whole) words
ends_test d (Some (token.Prefix a m)) words = alone (test.Net d a m) words
ends_test d _ words = None

-- ---- protocols

unfoldable pub ports_from : Transport → Direction → Option Token → List Token → Option Test
ports_from t d (Some token.Port) words = port_test t d words
ports_from t d _ words = None

-- behind `tcp` or `udp`: an optional direction and `port`
unfoldable pub ports_test : Transport → List Token → Option Test
ports_test t words = let d = direction_of words in ports_from t d.0 (slice_get d.1 0) (drop 1 d.1)

-- behind `tcp opt`: a flag
unfoldable pub flag_test : Option Token → List Token → Option Test
flag_test (Some (token.Flag f)) words = alone (test.TcpFlag f) words
flag_test _ words = None

-- behind `tcp`
unfoldable pub tcp_test : Option Token → List Token → List Token → Option Test
tcp_test None all words = Some (test.Protocol 6)
tcp_test (Some token.Opt) all words = flag_test (slice_get words 0) (drop 1 words)
tcp_test (Some _) all words = ports_test transport.Tcp all

-- behind `udp`
unfoldable pub udp_test : Option Token → List Token → Option Test
udp_test None words = Some (test.Protocol 17)
udp_test (Some word) words = ports_test transport.Udp words

-- behind `icmp`
unfoldable pub icmp_test : Option Token → List Token → Option Test
icmp_test None words = Some (test.Protocol 1)
icmp_test (Some token.Type) words = icmp_type_test words
icmp_test (Some _) words = None

-- behind `ip`: `proto` and a protocol, a field, `frag` or `unfrag`
unfoldable pub ip_test : Option Token → List Token → Option Test
ip_test (Some token.Proto) words = with_number (protocol_of (slice_get words 0)) (λ n. test.Protocol n) (drop 1 words)
ip_test (Some (token.Field f)) words = field_test f words
ip_test (Some token.Frag) words = alone test.Fragment words
ip_test (Some token.Unfrag) words = alone test.Unfragmented words
ip_test _ words = None

unfoldable pub test_from : Option Token → List Token → List Token → Option Test
test_from None all words = None
test_from (Some (token.Constant v)) all words = alone (test.Constant v) words
test_from (Some token.Tcp) all words = tcp_test (slice_get words 0) words (drop 1 words)
test_from (Some token.Udp) all words = udp_test (slice_get words 0) words
test_from (Some token.Icmp) all words = icmp_test (slice_get words 0) (drop 1 words)
test_from (Some token.Ip) all words = ip_test (slice_get words 0) (drop 1 words)
test_from _ all words = let d = direction_of all in ends_test d.0 (slice_get d.1 0) (drop 1 d.1)

-- the test that these words are
unfoldable pub test_of : List Token → Option Test
test_of words = test_from (slice_get words 0) words (drop 1 words)
