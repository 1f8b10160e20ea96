use Rattle.std.proofs.Common.{◌≡◌, ◌≤◌, ◌<◌, ◌+◌, ◌-◌, ◌*◌, ℕ, List, [], ◌∷◌, None, get_or, drop, refl, sym, ◌∙◌, arith}
use Rattle.std.proofs.lemmas.Bool.{le-ltb}
use Rattle.std.proofs.lemmas.List.{at_drop_more}
use Rattle.click_text.specs.Pieces.{decimal_after, port_spelled}
use Rattle.click_text.proofs.lexer.port_number.Goals as goal

-- more digits make a number no smaller
number_grows : (n : ℕ) (ds : List ℕ) → n ≤ decimal_after n ds
number_grows n [] = omega arith
number_grows n (d ∷ ds) = let h = number_grows (10 * n + (d - 48)) ds in omega arith

too_large : (n : ℕ) (es ds : List ℕ) → 255 < n → decimal_after n es ≡ decimal_after 0 ds → port_spelled ds ≡ None
too_large n es ds h e = rw (le-ltb (decimal_after 0 ds) 256 (omega (arith, number_grows n es))) refl

pub returns-then-number-gt255 : goal.returns-then-number-gt255
returns-then-number-gt255 c =
    let ds = c.args.digits.now in
    let i = c.loop-digit.digit-index in
    let n = c.loop-digit.number in
    let e : decimal_after n (drop i ds) ≡ decimal_after (10 * n + (get_or ds i 0 - 48)) (drop (i + 1) ds) = at_drop_more (decimal_after n) ds i 0 c.loop-digit-test.true in
    sym (too_large (10 * n + (get_or ds i 0 - 48)) (drop (i + 1) ds) ds (omega arith) (sym e ∙ c.loop-digit.invariant.goes_on))
