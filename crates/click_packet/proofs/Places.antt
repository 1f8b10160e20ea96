-- Lemmas about the bytes of a packet in its array.
use Rattle.std.proofs.Common.{◌≡◌, ℕ, ◌+◌, ◌-◌, ◌≤◌, min, List, ◌++◌, length, take, drop, sym, ◌∙◌, ap, arith, length-drop, length-take-le, drop-drop}
use Rattle.std.proofs.Math.Seq.{take-append-add, take-length}
use Rattle.std.proofs.Math.ListN.{drop_of_length-le}
use Rattle.std.proofs.lemmas.List.{append-nil, drop_min, drop-take}

-- the bytes that are left after the first ones are stripped
pub stripped : (xs : List ℕ) (start len count : ℕ) → start + len ≤ length xs →
    take (len - min count len) (drop (start + min count len) xs) ≡ drop count (take len (drop start xs))
stripped xs start len count h =
    let ys = drop start xs in
    let n = min count len in
    let within : len ≤ length ys = omega (arith, length-drop start xs) in
    let whole : length (take len ys) ≡ len = length-take-le len ys within in
    let parts : n + (len - n) ≡ len = omega arith in
    ap (λ zs. take (len - n) zs) (sym (drop-drop n start xs))
    ∙ sym (drop-take n (len - n) ys)
    ∙ ap (λ m. drop n (take m ys)) parts
    ∙ ap (λ m. drop (min count m) (take len ys)) (sym whole)
    ∙ drop_min count (take len ys)

-- the bytes with a front before them
pub prepended : (front rest bytes : List ℕ) (len : ℕ) → bytes ≡ front ++ rest → take (len + length front) bytes ≡ front ++ take len rest
prepended front rest bytes len e =
    let n : len + length front ≡ length front + len = omega arith in
    rw (e, n) (take-append-add front rest len)

-- a list that is overwritten completely
pub refilled : (xs ys : List ℕ) → length ys ≡ length xs → take (length xs) (ys ++ drop (length ys) xs) ≡ ys
refilled xs ys e =
    ap (λ zs. take (length xs) (ys ++ zs)) (drop_of_length-le xs (omega (arith, e)))
    ∙ ap (λ zs. take (length xs) zs) (append-nil ys)
    ∙ ap (λ n. take n ys) (sym e)
    ∙ take-length ys

-- the number of bytes
pub held : (xs : List ℕ) (start len : ℕ) → start + len ≤ length xs → length (take len (drop start xs)) ≡ len
held xs start len h = length-take-le len (drop start xs) (omega (arith, length-drop start xs))

-- the bytes after a front is written before them
pub fronted : (items written front : List ℕ) (start len count : ℕ) → length front ≡ count → count ≤ start → length written ≡ length items →
    drop (start - count) written ≡ front ++ drop (start - count + count) items →
    take (len + count) (drop (start - count) (take (length items) (written ++ drop (length written) items))) ≡ front ++ take len (drop start items)
fronted items written front start len count short room same put =
    let place : start - count + count ≡ start = omega arith in
    ap (λ bytes. take (len + count) (drop (start - count) bytes)) (refilled items written same)
    ∙ ap (λ n. take (len + n) (drop (start - count) written)) (sym short)
    ∙ prepended front (drop start items) _ len (put ∙ ap (λ n. front ++ drop n items) place)
