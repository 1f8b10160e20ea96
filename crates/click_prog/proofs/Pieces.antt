-- Lemmas on pieces that are filled, one read after another.
use Rattle.std.proofs.Common.{◌≡◌, ℕ, ◌+◌, ◌≤◌, List, ◌++◌, length, take, drop, ap, ◌∙◌, take-add, arith}
use Rattle.std.proofs.lemmas.List.{take_at, drop_at, length-append, length-take, take-append-le}
use Rattle.std.proofs.KnownBytes.{Consumes-trans}
use borrow.Rule.Slice.PartMut.{put_mid, post_of}
use Rattle.click_capture.specs.Numbers.{word}
use Rattle.click_capture.specs.Captures.{head_bytes}
use Rattle.click_capture.specs.declared.order.Order.{Order}
use Rattle.click_capture.specs.declared.record.RecordHeader.{RecordHeader}
use Rattle.click_streams.specs.Peers.{Input}
use Rattle.click_prog.specs.Reading.{Took, ReadFails}

-- the first bytes, and then those that a read put after them
pub grown : (a k n : ℕ) (xs ys : List ℕ) → a ≤ length xs → n ≤ length ys → take (a + n) (put_mid a k xs ys) ≡ take a xs ++ take n ys
grown a k n xs ys p q =
    let front : length (take a xs) ≡ a = omega (arith, length-take a xs) in
    let rest : List ℕ = ys ++ post_of a k xs in
    take-add a n (take a xs ++ rest) ∙ ap (λ (l : List ℕ). l ++ take n (drop a (take a xs ++ rest))) (take_at (take a xs) rest a front)
    ∙ ap (λ (l : List ℕ). take a xs ++ take n l) (drop_at (take a xs) rest a front) ∙ ap (λ (l : List ℕ). take a xs ++ l) (take-append-le n ys (post_of a k xs) q)

pub grown-len : (a k n : ℕ) (xs ys : List ℕ) → a ≤ length xs → n ≤ length ys → a + n ≤ length (put_mid a k xs ys)
grown-len a k n xs ys p q =
    omega (arith, length-take a xs, length-append (take a xs) (ys ++ post_of a k xs), length-append ys (post_of a k xs))

pub Took-then : (a b c : Input) (xs ys : List ℕ) → Took a b xs → Took b c ys → Took a c (xs ++ ys)
Took-then a b c xs ys p q = record { consumed = Consumes-trans a.remaining b.remaining c.remaining xs ys p.consumed q.consumed; failed = q.failed ∙ p.failed }

pub fails-then : (a b c : Input) (xs : List ℕ) → Took a b xs → ReadFails b c → ReadFails a c
fails-then a b c xs p q = record { bytes = xs ++ q.bytes; consumed = Consumes-trans a.remaining b.remaining c.remaining xs q.bytes p.consumed q.consumed; failed = q.failed }

-- the bytes of a record header, and then those of a packet, are those of the record
pub before_packet : (o : Order) (head : RecordHeader) (bytes : List ℕ) → length bytes ≡ head.kept
    → head_bytes o (record { time = head.time; kept = length bytes; wire = head.wire }) ≡ head_bytes o head
before_packet o head bytes len = ap (λ (k : ℕ). word o head.time.seconds ++ word o head.time.fraction ++ word o k ++ word o head.wire) len
