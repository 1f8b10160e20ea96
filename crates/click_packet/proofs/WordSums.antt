-- The sum of the 16-bit words of a list from an index on.
use Rattle.std.proofs.Common.{◌≡◌, ℕ, ◌+◌, ◌*◌, ◌<◌, ◌≤◌, List, [], length, get_or, drop, refl, ap, arith}
use Rattle.std.proofs.lemmas.List.{drop_more}
use Rattle.std.proofs.Math.ListN.{drop_of_length-le}
use Rattle.click_packet.specs.Checksum.{sum_of_words}
use Rattle.click_packet.proofs.Sums.{total, sum_of_words-total}

-- one more word
pub words-drop : (xs : List ℕ) (i : ℕ) → 2 * i + 1 < length xs →
    sum_of_words (drop (2 * i) xs) ≡ get_or xs (2 * i) 0 * 256 + get_or xs (2 * i + 1) 0 + sum_of_words (drop (2 * (i + 1)) xs)
words-drop xs i h =
    let a : 2 * i < length xs = omega arith in
    let e = drop_more xs (2 * i) 0 a in
    let f = drop_more xs (2 * i + 1) 0 h in
    let n : 2 * i + 1 + 1 ≡ 2 * (i + 1) = omega arith in
    let t = sum_of_words-total (drop (2 * i) xs) in
    let u = sum_of_words-total (drop (2 * (i + 1)) xs) in
    let s : total (drop (2 * i) xs) ≡ get_or xs (2 * i) 0 * 256 + get_or xs (2 * i + 1) 0 + total (drop (2 * (i + 1)) xs) = rw (e, f, n) refl in
    omega (arith, t, u, s)

-- no more words
pub words-end : (xs : List ℕ) (i : ℕ) → length xs ≤ 2 * i → sum_of_words (drop (2 * i) xs) ≡ 0
words-end xs i h = ap sum_of_words (drop_of_length-le xs h)

-- an odd last byte
pub words-odd : (xs : List ℕ) (i : ℕ) → length xs ≡ 2 * i + 1 → sum_of_words (drop (2 * i) xs) ≡ get_or xs (2 * i) 0 * 256
words-odd xs i h =
    let a : 2 * i < length xs = omega arith in
    let e = drop_more xs (2 * i) 0 a in
    let n : drop (2 * i + 1) xs ≡ [] = drop_of_length-le xs (omega (arith, h)) in
    let t = sum_of_words-total (drop (2 * i) xs) in
    let s : total (drop (2 * i) xs) ≡ get_or xs (2 * i) 0 * 256 = rw (e, n) refl in
    omega (arith, t, s)

pub ruleset word_steps = (words-drop)
