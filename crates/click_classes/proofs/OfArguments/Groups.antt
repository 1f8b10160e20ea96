-- Lemmas about groups with a separator between two of them.
use Rattle.std.proofs.Common.{◌≡◌, ◌==◌, ◌<◌, ◌+◌, ◌-◌, ℕ, suc, List, [], ◌∷◌, ◌++◌, length, take, drop, set, Option, Some, None, refl, ap, sym, ◌∙◌, arith, append_assoc, length-set}
use Rattle.std.proofs.lemmas.List.{take_more_set, take_all}
use Rattle.std.specs.Prelude.{position, option_map}
use Rattle.click_classes.specs.declared.values.groups.Group.{Group}
use Rattle.click_classes.specs.Values.{group, separated}

-- a list with others before it
abbrev pub preceded : List ℕ → Option (List ℕ) → Option (List ℕ)
preceded p o = option_map (λ xs. p ++ xs) o

module _ (k : Group) (separator : ℕ) (bytes : List ℕ) where
  pub separated_next : (m at x : ℕ) → position (λ b. b == separator) bytes ≡ Some at → group k (take at bytes) ≡ Some x → separated k separator (suc (suc m)) bytes ≡ preceded (x ∷ []) (separated k separator (suc m) (drop (at + 1) bytes))
  unfolding separated
  separated_next m at x e f = rw (e, f) refl

  pub separated_unseparated : (m : ℕ) → position (λ b. b == separator) bytes ≡ None → separated k separator (suc (suc m)) bytes ≡ None
  unfolding separated
  separated_unseparated m e = rw e refl

  pub separated_broken : (m at : ℕ) → position (λ b. b == separator) bytes ≡ Some at → group k (take at bytes) ≡ None → separated k separator (suc (suc m)) bytes ≡ None
  unfolding separated
  separated_broken m at e f = rw (e, f) refl

  pub separated_last : (x : ℕ) → group k bytes ≡ Some x → separated k separator 1 bytes ≡ Some (x ∷ [])
  unfolding separated
  separated_last x e = rw e refl

  pub separated_broken_last : group k bytes ≡ None → separated k separator 1 bytes ≡ None
  unfolding separated
  separated_broken_last e = rw e refl

pub preceded-preceded : (p q : List ℕ) (o : Option (List ℕ)) → preceded p (preceded q o) ≡ preceded (p ++ q) o
preceded-preceded p q None = refl
preceded-preceded p q (Some xs) = ap Some (sym (append_assoc p q xs))

pub preceded_none : (p : List ℕ) (o : Option (List ℕ)) → o ≡ None → preceded p o ≡ None
preceded_none p o e = rw e refl

-- one more group and separator
pub separated_step : (k : Group) (separator : ℕ) (values rest : List ℕ) (i at x : ℕ) (all : Option (List ℕ)) → position (λ b. b == separator) rest ≡ Some at → group k (take at rest) ≡ Some x → i + 1 < length values → preceded (take i values) (separated k separator (length values - i) rest) ≡ all → preceded (take (i + 1) (set values i x)) (separated k separator (length (set values i x) - (i + 1)) (drop (at + 1) rest)) ≡ all
separated_step k separator values rest i at x all e f h g =
    let in_values : i < length values = omega arith in
    let two : length values - i ≡ suc (suc (length values - i - 2)) = omega arith in
    let one : length (set values i x) - (i + 1) ≡ suc (length values - i - 2) = omega (arith, length-set values i x) in
    let next = separated_next k separator rest (length values - i - 2) at x e f in
    let old : preceded (take i values) (preceded (x ∷ []) (separated k separator (suc (length values - i - 2)) (drop (at + 1) rest))) ≡ all = rw (← next, ← two) g in
    rw (one, take_more_set values i x in_values, ← preceded-preceded (take i values) (x ∷ [])) old

-- the last group
pub separated_end : (k : Group) (separator : ℕ) (values rest : List ℕ) (last x : ℕ) (all : Option (List ℕ)) → group k rest ≡ Some x → last + 1 ≡ length values → preceded (take last values) (separated k separator (length values - last) rest) ≡ all → all ≡ Some (set values last x)
separated_end k separator values rest last x all f h g =
    let one : length values - last ≡ 1 = omega arith in
    let whole : set values last x ≡ take last values ++ x ∷ [] = sym (take_all (last + 1) (set values last x) (omega (arith, length-set values last x))) ∙ take_more_set values last x (omega arith) in
    let old : preceded (take last values) (separated k separator 1 rest) ≡ all = rw (← one) g in
    let found = separated_last k separator rest x f in
    sym old ∙ rw found (ap Some (sym whole))
