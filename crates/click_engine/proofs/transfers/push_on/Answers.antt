use Rattle.std.proofs.Common.{◌-◌, refl, arith}
use Rattle.click_engine.specs.kept.Transfers.{run_state_with}
use Rattle.click_engine.proofs.OfPlants.LastElement.{but_last_length}
use Rattle.click_engine.proofs.OfRuns.Crossings.{along_lost, along_next, along_one, along_over, pushed_on}
use Rattle.click_engine.proofs.transfers.push_on.Goals as goal

pub returns-then-outputs-eq0-clause-along : goal.returns-then-outputs-eq0-clause-along
returns-then-outputs-eq0-clause-along c = λ at output lost joined.
    let (near, by, there, along) = c.loop-left.invariant.along at output lost joined in
    let short = but_last_length c.loop-left.elements c.loop-left.invariant.blank in
    along_over _ _ _ _ _ _ _ _ _ _ _ _ _ (
    along_next _ _ _ _ _ _ _ _ _ _ _ _ _ _ _ along
    (pushed_on _ _ _ _ _ _ _ _ (run_state_with c.loop-left.elements (c.loop-left.left - 1) lost) c.act_at-outputs.result _ (omega (arith, c.loop-left-test.true)) there (omega (arith, short, c.loop-left.auto.elements, c.requires.circuit)) refl (c.act_at-outputs.ensures.acts.acts _ lost) (omega arith)))
    (omega (arith, c.if-outputs-eq0.true))

pub returns-then-outputs-ne1-clause-along : goal.returns-then-outputs-ne1-clause-along
returns-then-outputs-ne1-clause-along c = λ at output lost joined.
    let (near, by, there, along) = c.loop-left.invariant.along at output lost joined in
    let short = but_last_length c.loop-left.elements c.loop-left.invariant.blank in
    along_next _ _ _ _ _ _ _ _ _ _ _ _ _ _ _ along
    (pushed_on _ _ _ _ _ _ _ _ (run_state_with c.loop-left.elements (c.loop-left.left - 1) lost) c.act_at-outputs.result _ (omega (arith, c.loop-left-test.true)) there (omega (arith, short, c.loop-left.auto.elements, c.requires.circuit)) refl (c.act_at-outputs.ensures.acts.acts _ lost) (omega arith))

pub loop-left-preserved : goal.loop-left-preserved
loop-left-preserved c = record {
  along = λ at output lost joined.
      let (near, by, there, along) = c.loop-left.invariant.along at output lost joined in
      let short = but_last_length c.loop-left.elements c.loop-left.invariant.blank in (
        c.loop-left.far.element,
        c.act_at-outputs.result.first,
        c.target_of-far.ensures.target,
        along_one _ _ _ _ _ _ _ _ _ _ _ _ _ _ _ along
            (pushed_on _ _ _ _ _ _ _ _ (run_state_with c.loop-left.elements (c.loop-left.left - 1) lost) c.act_at-outputs.result _ (omega (arith, c.loop-left-test.true)) there (omega (arith, short, c.loop-left.auto.elements, c.requires.circuit)) refl (c.act_at-outputs.ensures.acts.acts _ lost) (omega arith))
            (omega (arith, c.if-outputs-ne1.false)),
      );
  there = c.target_of-far.ensures.within;
  blank = c.act_at-outputs.ensures.blank;
}

pub returns-clause-along : goal.returns-clause-along
returns-clause-along c = λ at output lost joined.
    let (near, by, there, along) = c.loop-left.invariant.along at output lost joined in
    along_lost _ _ _ _ _ _ _ _ _ _ _ _ _ along (omega (arith, c.loop-left-test.false)) refl
