-- Numbers and annotations read back.
use Rattle.std.proofs.Common.{◌≡◌, ℕ, ◌<◌, ◌≤◌, ◌^◌, List, ◌∷◌, ◌++◌, length, Result, Ok, Err, sym, ap, ◌∙◌, arith}
use Rattle.std.specs.Prelude.{decimal}
use Rattle.click_base.specs.Numbers.{decimal_number}
use Rattle.click_base.specs.declared.numbers.NumberFault.{NumberFault}
use Rattle.click_base.proofs.Decimals.{decimal_number-inside}
use Rattle.click_classes.specs.Values.{address}
use Rattle.click_classes.specs.declared.fault.ArgFault.{ArgFault}
use Rattle.click_handlers.specs.Reads.{dotted}
use Rattle.click_lines.specs.Lines.{AreBytes}
use Rattle.click_lines.specs.Reading.{before, after}
use Rattle.click_lines.proofs.CutParts.{before-at, after-at}
use Rattle.click_lines.proofs.PacketWords.{apart_58, reads}
use Rattle.click_lines.proofs.Words.{lacks-decimal}

pub same_value : {A B : Type 0} (r : Result A B) (x y : A) → r ≡ Ok x → r ≡ Ok y → x ≡ y
same_value r x y e f = let both : Ok x ≡ Ok y = sym e ∙ f in cc

pub no_error : {A B : Type 0} (r : Result A B) (x : A) (fault : B) → r ≡ Ok x → r ≡ Err fault → ⊥
no_error r x fault e f = let both : Ok x ≡ Err fault = sym e ∙ f in cc

-- a number is read from its digits
pub number_back : (high n : ℕ) (digits : List ℕ) (read : Result ℕ NumberFault) → n < 2 ^ 64 → n ≤ high → decimal n ≡ digits → read ≡ decimal_number 0 high digits → read ≡ Ok n
number_back high n digits read small fits e is = is ∙ ap (decimal_number 0 high) (sym e) ∙ decimal_number-inside 0 high n small (omega arith) fits

paint_small : (paint : ℕ) → paint < 256 → paint < 2 ^ 64
paint_small paint l = omega (arith, l)

-- the annotations are cut at their colon
pub paint_text : (paint : ℕ) (destination text : List ℕ) → paint < 256 → decimal paint ++ 58 ∷ dotted destination ≡ text → decimal paint ≡ before 58 text
paint_text paint destination text l e = sym (before-at 58 (decimal paint) (dotted destination) (lacks-decimal 58 paint apart_58 (paint_small paint l))) ∙ ap (before 58) e

pub destination_text : (paint : ℕ) (destination text : List ℕ) → paint < 256 → decimal paint ++ 58 ∷ dotted destination ≡ text → dotted destination ≡ after 58 text
destination_text paint destination text l e = sym (after-at 58 (decimal paint) (dotted destination) (lacks-decimal 58 paint apart_58 (paint_small paint l))) ∙ ap (after 58) e

pub paint_back : (paint : ℕ) (destination text : List ℕ) (read : Result ℕ NumberFault) → paint < 256 → decimal paint ++ 58 ∷ dotted destination ≡ text
    → read ≡ decimal_number 0 255 (before 58 text) → read ≡ Ok paint
paint_back paint destination text read l e is =
    number_back 255 paint (before 58 text) read (paint_small paint l) (omega (arith, l)) (paint_text paint destination text l e) is

pub destination_back : (paint : ℕ) (destination text : List ℕ) (read : Result (List ℕ) ArgFault) → paint < 256 → length destination ≡ 4 → AreBytes destination
    → decimal paint ++ 58 ∷ dotted destination ≡ text → read ≡ address (after 58 text) → read ≡ Ok destination
destination_back paint destination text read l four h e is =
    is ∙ ap address (sym (destination_text paint destination text l e)) ∙ reads destination four h
