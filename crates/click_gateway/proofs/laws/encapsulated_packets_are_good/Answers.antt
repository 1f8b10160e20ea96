use Rattle.std.proofs.Common.{◌+◌, List, ℕ, length, drop, ap, ◌∙◌, arith}
use Rattle.click_packet.specs.Checksum.{sum_of_words, ones_sum}
use Rattle.click_gateway.specs.Udp.{with_pseudo_header}
use Rattle.click_gateway.proofs.Segments.{udp-carries, segment-sums, segment-content, segment-len}
use Rattle.click_gateway.proofs.laws.encapsulated_packets_are_good.Goals as goal

pub returns-clause-good : goal.returns-clause-good
returns-clause-good c = λ from to content sp dp n m. (udp-carries sp dp from to content n m).good

pub returns-clause-source : goal.returns-clause-source
returns-clause-source c = λ from to content sp dp n m. (udp-carries sp dp from to content n m).source

pub returns-clause-destination : goal.returns-clause-destination
returns-clause-destination c = λ from to content sp dp n m. (udp-carries sp dp from to content n m).destination

pub returns-clause-sum : goal.returns-clause-sum
returns-clause-sum c = λ from to content sp dp n m.
    ap (λ (xs : List ℕ). ones_sum (sum_of_words (with_pseudo_header from to (length content + 8) xs))) (udp-carries sp dp from to content n m).carried
    ∙ segment-sums sp dp from to content n m

pub returns-clause-content : goal.returns-clause-content
returns-clause-content c = λ from to content sp dp n m.
    ap (λ (xs : List ℕ). drop 8 xs) (udp-carries sp dp from to content n m).carried ∙ segment-content sp dp from to content

pub returns-clause-len : goal.returns-clause-len
returns-clause-len c = λ from to content sp dp n m.
    omega (arith, (udp-carries sp dp from to content n m).len, segment-len sp dp from to content)
