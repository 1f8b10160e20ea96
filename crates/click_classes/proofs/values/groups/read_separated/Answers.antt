use Rattle.std.proofs.Common.{◌≡◌, ◌+◌, ◌-◌, length, sym, ◌∙◌, suc, arith, length-set}
use Rattle.std.proofs.lemmas.List.{take_rest}
use Rattle.click_classes.proofs.OfArguments.Groups.{preceded_none, separated_unseparated, separated_broken, separated_broken_last, separated_step, separated_end}
use Rattle.click_classes.proofs.values.groups.read_separated.Goals as goal

pub returns-in_default : goal.returns-in_default
returns-in_default c =
    let two : length c.loop-i.values - c.loop-i.i ≡ suc (suc (length c.loop-i.values - c.loop-i.i - 2)) = omega arith in
    let none = separated_unseparated c.args.kind c.args.separator c.loop-i.rest.now (length c.loop-i.values - c.loop-i.i - 2) (sym c.place.ensures.value ∙ c.in_default.is) in
    sym c.loop-i.invariant.goes_on ∙ preceded_none _ _ (rw two none)

pub returns-in_default-read : goal.returns-in_default-read
returns-in_default-read c =
    let two : length c.loop-i.values - c.loop-i.i ≡ suc (suc (length c.loop-i.values - c.loop-i.i - 2)) = omega arith in
    let none = separated_broken c.args.kind c.args.separator c.loop-i.rest.now (length c.loop-i.values - c.loop-i.i - 2) c.in-Some.at (sym c.place.ensures.value ∙ c.in-Some.is) (sym c.read.ensures ∙ c.in_default-read.is) in
    sym c.loop-i.invariant.goes_on ∙ preceded_none _ _ (rw two none)

pub loop-i-preserved : goal.loop-i-preserved
loop-i-preserved c = record {
  same_len = length-set c.loop-i.values c.loop-i.i c.in-Some-read.value ∙ c.loop-i.invariant.same_len;
  goes_on = rw (take_rest c.loop-i.rest.now (c.in-Some.at + 1)) (separated_step c.args.kind c.args.separator c.loop-i.values c.loop-i.rest.now c.loop-i.i c.in-Some.at c.in-Some-read.value _ (sym c.place.ensures.value ∙ c.in-Some.is) (sym c.read.ensures ∙ c.in-Some-read.is) (omega arith) c.loop-i.invariant.goes_on);
}

pub returns-in_default-read-2 : goal.returns-in_default-read-2
returns-in_default-read-2 c =
    let one : length c.loop-i.values - c.loop-i.i ≡ 1 = omega arith in
    let none = separated_broken_last c.args.kind c.args.separator c.loop-i.rest.now (sym c.read-2.ensures ∙ c.in_default-read-2.is) in
    sym c.loop-i.invariant.goes_on ∙ preceded_none _ _ (rw one none)

pub returns : goal.returns
returns c =
    let last : c.loop-i.i ≡ length c.args.values.now - 1 = omega arith in
    rw (← last) (separated_end c.args.kind c.args.separator c.loop-i.values c.loop-i.rest.now c.loop-i.i c.in-Some-read-2.value _ (sym c.read-2.ensures ∙ c.in-Some-read-2.is) (omega arith) c.loop-i.invariant.goes_on)
