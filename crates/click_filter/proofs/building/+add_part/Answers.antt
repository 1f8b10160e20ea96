use Rattle.std.proofs.Common.{◌≡◌, ℕ, List, ◌++◌, ◌∷◌, [], length, reverse, true, cond, ◌-◌, Bool, inl, inr, sym, ◌∙◌, ap, subst, take, vec_len, arith}
use Rattle.std.proofs.Math.ListN.{length-append, length-take}
use Rattle.std.proofs.lemmas.Result.{IfOk-weaker, IfErr-weaker, err_from_is_err_and}
use Rattle.click_filter.specs.declared.pattern.Node.{Node}
use Rattle.click_filter.specs.declared.step.Step.{Step}
use Rattle.click_filter.specs.Trees.{truth, flat}
use Rattle.click_filter.specs.kept.Steps.{value, forward}
use Rattle.click_filter.proofs.PatternNodes.{at_test, at_not, at_and, at_or, some_node}
use Rattle.click_filter.proofs.StepValues.{cond_not, cond_and, cond_or}
use Rattle.click_filter.proofs.building.+add_part.Goals as goal

pub returns-in_default-clause-part : goal.returns-in_default-clause-part
returns-in_default-clause-part t c u front e =
    let l = c.parts.invariant.left u front e in
    let none = c.in_default.ensures.cases.0 in
    let short : length c.pop.new.self.items ≡ length (take (vec_len c.parts.nodes - 1) c.parts.nodes.items) = ap length c.in_default.ensures.rest in
    let whole : length c.parts.nodes.items ≡ length (c.pop.new.self.items ++ []) = ap length c.in_default.ensures.items in
    let some = some_node l.0 in
    let e' : length c.parts.nodes.items ≡ length (front ++ flat l.0) = ap length l.1 in
    absurd (omega (arith, length-append {A = Node}, length-take {A = Node}))

pub returns-in-Test-clause-part : goal.returns-in-Test-clause-part
returns-in-Test-clause-part t c u front e =
    let l = c.parts.invariant.left u front e in
    let q = at_test l.0 front c.pop.new.self.items c.in-Test.test (sym l.1 ∙ c.in-Some.ensures.items ∙ ap (λ (m : Node). c.pop.new.self.items ++ m ∷ []) c.in-Test.is) in
    IfOk-weaker c.push_test.result _ _ (λ at h. (
      q.0,
      (let k = l.2 in let j = q.2 in let i = h.0 in omega arith),
      λ b. h.2 b
          ∙ ap (λ (x : Bool). cond x (value (reverse c.parts.steps.items) c.parts.yes b) (value (reverse c.parts.steps.items) c.parts.no b)) (sym (q.1 b)) ∙ l.3 b,
    ))
    c.push_test.ensures.ok

pub returns-in-Test-clause-full : goal.returns-in-Test-clause-full
returns-in-Test-clause-full t c u front e =
    let l = c.parts.invariant.left u front e in
    let q = at_test l.0 front c.pop.new.self.items c.in-Test.test (sym l.1 ∙ c.in-Some.ensures.items ∙ ap (λ (m : Node). c.pop.new.self.items ++ m ∷ []) c.in-Test.is) in
    let k = l.2 in
    let j = q.2 in
    IfErr-weaker c.push_test.result _ _ (λ x h e'. let f = h e' in omega arith) c.push_test.ensures.full

pub parts-preserved-in-Not : goal.parts-preserved-in-Not
parts-preserved-in-Not t c = record {
  few = c.parts.invariant.few;
  forward = c.parts.invariant.forward;
  at_yes = c.parts.invariant.at_no;
  at_no = c.parts.invariant.at_yes;
  kept = c.parts.invariant.kept;
  more = c.parts.invariant.more;
  fewer = (let p = ap length c.in-Some.ensures.items in let f = c.parts.invariant.fewer in omega (arith, length-append {A = Node}));
  left = λ u front e.
      let l = c.parts.invariant.left u front e in
      let q = at_not l.0 front c.pop.new.self.items (sym l.1 ∙ c.in-Some.ensures.items ∙ ap (λ (m : Node). c.pop.new.self.items ++ m ∷ []) c.in-Not.is) in
      let old = value (reverse c.parts.steps.items) in (
        q.0,
        q.1,
        (let k = l.2 in let j = q.3 in omega arith),
        λ b. cond_not (truth q.0 b) (old c.parts.yes b) (old c.parts.no b) ∙ ap (λ (x : Bool). cond x (old c.parts.yes b) (old c.parts.no b)) (sym (q.2 b)) ∙ l.3 b,
      );
}

pub add_part-requires : goal.add_part-requires
add_part-requires t c =
    let p = ap length c.in-Some.ensures.items in let f = c.parts.invariant.fewer in
    (omega (arith, length-append {A = Node}), (c.parts.invariant.few, (c.parts.invariant.forward, (c.parts.invariant.at_yes, c.parts.invariant.at_no))))

pub returns-in_err-yes-in-And-clause-full : goal.returns-in_err-yes-in-And-clause-full
returns-in_err-yes-in-And-clause-full t c u front e =
    let l = c.parts.invariant.left u front e in
    let q = at_and l.0 front c.pop.new.self.items (sym l.1 ∙ c.in-Some.ensures.items ∙ ap (λ (m : Node). c.pop.new.self.items ++ m ∷ []) c.in-And.is) in
    let r = err_from_is_err_and c.from_residual.result c.from_residual.ensures.1 in
    let k = l.2 in
    let j = q.4 in
    rw (r.1, r.2) (λ e'. let f = c.in_err-yes-in-And.ensures.full q.1 (front ++ flat q.0) q.2 e' in omega arith)

pub parts-preserved-in-And : goal.parts-preserved-in-And
parts-preserved-in-And t c = record {
  few = c.add_part.ensures.few;
  forward = c.add_part.ensures.forward;
  at_yes = c.in_ok-yes-in-And.ensures.target;
  at_no = (let n = c.add_part.ensures.more in let m = c.parts.invariant.at_no in omega arith);
  kept = λ at b h. let m = c.parts.invariant.more in c.add_part.ensures.kept at b (omega arith) ∙ c.parts.invariant.kept at b h;
  more = (let m = c.parts.invariant.more in let n = c.add_part.ensures.more in omega arith);
  fewer = (let p = ap length c.in-Some.ensures.items in let f = c.parts.invariant.fewer in let g = c.add_part.ensures.fewer in omega (arith, length-append {A = Node}));
  left = λ u front e.
      let l = c.parts.invariant.left u front e in
      let q = at_and l.0 front c.pop.new.self.items (sym l.1 ∙ c.in-Some.ensures.items ∙ ap (λ (m : Node). c.pop.new.self.items ++ m ∷ []) c.in-And.is) in
      let p = c.in_ok-yes-in-And.ensures.part q.1 (front ++ flat q.0) q.2 in
      let old = value (reverse c.parts.steps.items) in
      let new = value (reverse c.add_part.new.steps.items) in (
        q.0,
        p.0,
        (let k = l.2 in let j = q.4 in let m = p.1 in omega arith),
        λ b. ap (λ (x : ℕ). cond (truth q.0 b) x (new c.parts.no b)) (p.2 b) ∙ ap (λ (x : ℕ). cond (truth q.0 b) (cond (truth q.1 b) (old c.parts.yes b) (old c.parts.no b)) x) (c.add_part.ensures.kept c.parts.no b c.parts.invariant.at_no)
            ∙ cond_and (truth q.0 b) (truth q.1 b) (old c.parts.yes b) (old c.parts.no b)
            ∙ ap (λ (x : Bool). cond x (old c.parts.yes b) (old c.parts.no b)) (sym (q.3 b)) ∙ l.3 b,
      );
}

pub add_part-requires-in-Or : goal.add_part-requires-in-Or
add_part-requires-in-Or t c =
    let p = ap length c.in-Some.ensures.items in let f = c.parts.invariant.fewer in
    (omega (arith, length-append {A = Node}), (c.parts.invariant.few, (c.parts.invariant.forward, (c.parts.invariant.at_yes, c.parts.invariant.at_no))))

pub returns-in_err-no-in-Or-clause-full : goal.returns-in_err-no-in-Or-clause-full
returns-in_err-no-in-Or-clause-full t c u front e =
    let l = c.parts.invariant.left u front e in
    let q = at_or l.0 front c.pop.new.self.items (sym l.1 ∙ c.in-Some.ensures.items ∙ ap (λ (m : Node). c.pop.new.self.items ++ m ∷ []) c.in-Or.is) in
    let r = err_from_is_err_and c.from_residual-in_err-no-in-Or.result c.from_residual-in_err-no-in-Or.ensures.1 in
    let k = l.2 in
    let j = q.4 in
    rw (r.1, r.2) (λ e'. let f = c.in_err-no-in-Or.ensures.full q.1 (front ++ flat q.0) q.2 e' in omega arith)

pub parts-preserved : goal.parts-preserved
parts-preserved t c = record {
  few = c.add_part-in-Or.ensures.few;
  forward = c.add_part-in-Or.ensures.forward;
  at_no = c.in_ok-no-in-Or.ensures.target;
  at_yes = (let n = c.add_part-in-Or.ensures.more in let m = c.parts.invariant.at_yes in omega arith);
  kept = λ at b h. let m = c.parts.invariant.more in c.add_part-in-Or.ensures.kept at b (omega arith) ∙ c.parts.invariant.kept at b h;
  more = (let m = c.parts.invariant.more in let n = c.add_part-in-Or.ensures.more in omega arith);
  fewer = (let p = ap length c.in-Some.ensures.items in let f = c.parts.invariant.fewer in let g = c.add_part-in-Or.ensures.fewer in omega (arith, length-append {A = Node}));
  left = λ u front e.
      let l = c.parts.invariant.left u front e in
      let q = at_or l.0 front c.pop.new.self.items (sym l.1 ∙ c.in-Some.ensures.items ∙ ap (λ (m : Node). c.pop.new.self.items ++ m ∷ []) c.in-Or.is) in
      let p = c.in_ok-no-in-Or.ensures.part q.1 (front ++ flat q.0) q.2 in
      let old = value (reverse c.parts.steps.items) in
      let new = value (reverse c.add_part-in-Or.new.steps.items) in (
        q.0,
        p.0,
        (let k = l.2 in let j = q.4 in let m = p.1 in omega arith),
        λ b. ap (λ (x : ℕ). cond (truth q.0 b) (new c.parts.yes b) x) (p.2 b) ∙ ap (λ (x : ℕ). cond (truth q.0 b) x (cond (truth q.1 b) (old c.parts.yes b) (old c.parts.no b))) (c.add_part-in-Or.ensures.kept c.parts.yes b c.parts.invariant.at_yes)
            ∙ cond_or (truth q.0 b) (truth q.1 b) (old c.parts.yes b) (old c.parts.no b)
            ∙ ap (λ (x : Bool). cond x (old c.parts.yes b) (old c.parts.no b)) (sym (q.3 b)) ∙ l.3 b,
      );
}
