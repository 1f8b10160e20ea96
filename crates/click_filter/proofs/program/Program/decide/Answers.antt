use Rattle.std.proofs.Common.{◌≡◌, ◌+◌, ◌-◌, ℕ, List, reverse, get_or, sym, ◌∙◌, ap, arith}
use Rattle.click_filter.specs.declared.step.Step.{Step}
use Rattle.click_filter.specs.kept.Steps.{action_of, value}
use Rattle.click_filter.proofs.StepValues.{Leads, leads, value_action}
use Rattle.click_filter.proofs.program.Program.decide.Goals as goal

-- the step that was read leads on
abbrev steps_of : goal.After-next-at → List Step
steps_of c = c.args.self.now.steps.items

read : (c : goal.After-next-at) → Leads (reverse (steps_of c)) (c.steps.at - 257) c.index.result.now c.args.packet.now
read c = leads (steps_of c) (c.steps.at - 257) c.index.result.now c.args.packet.now (omega arith)
    (c.index.ensures ∙ ap (λ (i : ℕ). get_or (steps_of c) i c.index.result.now) c.from.ensures) c.args.self.now.forward

pub steps-smaller : goal.steps-smaller
steps-smaller c = let r = (read c).older in let e = c.next-at.ensures in omega arith

pub steps-preserved : goal.steps-preserved
steps-preserved c =
    let r = read c in
    let o = r.older in
    let e = c.next-at.ensures in
    let again : (c.steps.at - 257) + 257 ≡ c.steps.at = omega arith in
    let v = value (reverse (steps_of c)) in
    record {
      there = omega arith;
      same = ap (λ (i : ℕ). v i c.args.packet.now) c.next-at.ensures ∙ sym r.value_next ∙ ap (λ (i : ℕ). v i c.args.packet.now) again ∙ c.steps.invariant.same;
    }

pub returns : goal.returns
returns c = c.from_target.ensures ∙ ap action_of (sym (value_action (reverse c.args.self.now.steps.items) c.steps.at c.args.packet.now (omega arith)) ∙ c.steps.invariant.same)
