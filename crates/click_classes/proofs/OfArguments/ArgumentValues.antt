-- Lemmas about the values that arguments stand for.
use Rattle.std.proofs.Common.{◌≡◌, ℕ, ◌+◌, ◌<◌, ◌≤◌, List, [], ◌∷◌, ◌++◌, length, get_or, take, true, false, Option, Some, Result, Ok, Err, refl, arith}
use Rattle.std.specs.Prelude.{nat_le}
use Rattle.std.specs.List.{AllZip}
use Rattle.std.proofs.lemmas.Bool.Decides.{nat_tests}
use Rattle.std.proofs.lemmas.List.{take_more}
use Rattle.click_text.specs.Unquote.{StandsFor}
use Rattle.click_classes.specs.declared.fault.ArgFault.{ArgFault}
use Rattle.click_classes.specs.declared.fault.ArgFault.TheVariants as fault
use Rattle.click_classes.specs.Made.{source_bytes}
use Rattle.click_classes.specs.kept.Answers.{AreBytes}

zip_push : {A B : Type 0} (R : A → B → Type 0) (xs : List A) (ys : List B) (x : A) (y : B) → AllZip R xs ys → R x y → AllZip R (xs ++ x ∷ []) (ys ++ y ∷ [])
zip_push R [] [] x y h r = (r, tt)
zip_push R [] (b ∷ ys) x y h r = absurd h
zip_push R (a ∷ xs) [] x y h r = absurd h
zip_push R (a ∷ xs) (b ∷ ys) x y h r = (h.0, zip_push R xs ys x y h.1 r)

-- what is read of one more argument
pub one_more_read : {B : Type 0} (R : List ℕ → B → Type 0) (args : List (List ℕ)) (all : List B) (i : ℕ) (b : B) → i < length args → AllZip R (take i args) all → R (get_or args i []) b → AllZip R (take (i + 1) args) (all ++ b ∷ [])
one_more_read R args all i b h so_far next = let e = take_more args i [] h in rw e (zip_push R (take i args) all (get_or args i []) b so_far next)

-- the bytes of a source, if its first argument is given
pub bytes_given : (argument : List ℕ) (o : Option (List ℕ)) (bytes : Option (List ℕ)) (r : Result (List ℕ) ArgFault) → Some argument ≡ o → StandsFor argument bytes → r ≡ source_bytes (Some bytes) → AreBytes o r
bytes_given argument o bytes r e s f = rw (← e) (Some bytes, (bytes, s, refl), f)

pub source_long : (p : List ℕ) → 1600 < length p → Err fault.OutOfRange ≡ source_bytes (Some (Some p))
source_long p h = let e : nat_le (length p) 1600 ≡ false = grind (arith, nat_tests) in rw e refl

pub source_short : (p : List ℕ) → length p ≤ 1600 → Ok p ≡ source_bytes (Some (Some p))
source_short p h = let e : nat_le (length p) 1600 ≡ true = grind (arith, nat_tests) in rw e refl
