use Rattle.std.proofs.Common.{◌≡◌, ℕ, List, length, Result, rules, refl, sym, ap, ◌∙◌}
use Rattle.std.proofs.lemmas.Bool.{eqb-true}
use Rattle.click_base.specs.Numbers.{decimal_number}
use Rattle.click_base.specs.declared.numbers.NumberFault.{NumberFault}
use Rattle.click_control.specs.Commands.{first_word, second_word, third_word, parse_data}
use Rattle.click_router.specs.declared.check.Access.{Access}
use Rattle.click_control.proofs.LineMeanings.{announced_by, parse_data-two}
use Rattle.click_control.proofs.parsed.parse_data.Goals as goal

-- the meaning of the words, if there is no third one
words : (w : Access) (rest first second third : List ℕ) (n : Result ℕ NumberFault) → first ≡ first_word rest → second ≡ second_word rest → third ≡ third_word rest
    → length third ≡ 0 → n ≡ decimal_number 0 1048576 second
    → announced_by w first n ≡ parse_data w (first_word rest) (second_word rest) (third_word rest)
words w rest first second third n e f g none is =
    rw (is, e, f) (sym (parse_data-two w (first_word rest) (second_word rest) (third_word rest) (ap length (sym g) ∙ none)))

pub returns-in-Ok : goal.returns-in-Ok
returns-in-Ok c =
    let all = words c.args.direction c.args.rest.now c.cut.result.0.now c.cut-2.result.0.now c.cut-3.result.0.now c.decimal_number.result
    c.cut.ensures.word (search rules) (search rules) (eqb-true _ _ (sym c.if-not-is_empty.ensures)) c.decimal_number.ensures.value in
    let is = rw c.in-Ok.is at all in
    rw (sym is) c.payload_line.ensures

pub returns-in-Err : goal.returns-in-Err
returns-in-Err c =
    let all = words c.args.direction c.args.rest.now c.cut.result.0.now c.cut-2.result.0.now c.cut-3.result.0.now c.decimal_number.result
    c.cut.ensures.word (search rules) (search rules) (eqb-true _ _ (sym c.if-not-is_empty.ensures)) c.decimal_number.ensures.value in
    let is = rw c.in-Err.is at all in
    rw (sym is, c.bad_count.ensures) refl
