-- Lemmas about the last dot of a name.
use Rattle.std.proofs.Common.{◌≡◌, ℕ, ◌+◌, ◌-◌, ◌<◌, List, true, false, not, length, get_or, take, drop, sym, ap, ◌∙◌, arith}
use Rattle.std.specs.List.{suffix_len, before_last, after_last}
use Rattle.std.proofs.lemmas.Bool.{not_from_false, not_from_true}
use Rattle.std.proofs.lemmas.List.Sums.{suffix_len_is}
use Rattle.click_base.specs.Dotted.{is_dot}

-- the length of what follows the last dot, if that dot is at index k
suffix-at : (name : List ℕ) (k : ℕ) → k < length name → is_dot (get_or name k 0) ≡ true → ((j : ℕ) → k < j → j < length name → is_dot (get_or name j 0) ≡ false) →
    suffix_len (λ b. not (is_dot b)) name ≡ length name - (k + 1)
suffix-at name k q dot after =
    suffix_len_is (λ b. not (is_dot b)) name (k + 1) 0 (omega arith)
    (λ j low high. not_from_false (is_dot (get_or name j 0)) (after j (omega arith) high))
    (λ _. not_from_true (is_dot (get_or name (k + 1 - 1) 0)) (ap (λ i. is_dot (get_or name i 0)) (let e : k + 1 - 1 ≡ k = omega arith in e) ∙ dot))

pub before_last-at : (name : List ℕ) (k : ℕ) → k < length name → is_dot (get_or name k 0) ≡ true → ((j : ℕ) → k < j → j < length name → is_dot (get_or name j 0) ≡ false) → take k name ≡ before_last is_dot name
before_last-at name k q dot after =
    let place : length name - suffix_len (λ b. not (is_dot b)) name - 1 ≡ k = let e = suffix-at name k q dot after in omega (arith, e) in
    sym (ap (λ i. take i name) place)

pub after_last-at : (name : List ℕ) (k : ℕ) → k < length name → is_dot (get_or name k 0) ≡ true → ((j : ℕ) → k < j → j < length name → is_dot (get_or name j 0) ≡ false) → drop (k + 1) name ≡ after_last is_dot name
after_last-at name k q dot after =
    let place : length name - suffix_len (λ b. not (is_dot b)) name ≡ k + 1 = let e = suffix-at name k q dot after in omega (arith, e) in
    sym (ap (λ i. drop i name) place)
