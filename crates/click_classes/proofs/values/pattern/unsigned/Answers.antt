use Rattle.std.proofs.Common.{sym, ◌∙◌}
use Rattle.std.proofs.lemmas.List.{take_rest}
use Rattle.click_classes.proofs.OfPatterns.Clauses.{unsigned_masked, unsigned_full}
use Rattle.click_classes.proofs.values.pattern.unsigned.Goals as goal

pub returns-in-Some-place : goal.returns-in-Some-place
returns-in-Some-place c =
    let e = unsigned_masked c.args.negated c.args.text.now c.in-Some.at c.in-Some-decimal_in.offset (sym c.place.ensures.value ∙ c.in-Some.is) (sym c.decimal_in.ensures.value ∙ c.in-Some-decimal_in.is) c.in-Some-place.end (simp take_rest at (sym c.place-2.ensures.value ∙ c.in-Some-place.is)) in
    rw e (simp take_rest at c.clause_of.ensures)

pub returns-in-None : goal.returns-in-None
returns-in-None c =
    let e = unsigned_full c.args.negated c.args.text.now c.in-Some.at c.in-Some-decimal_in.offset (sym c.place.ensures.value ∙ c.in-Some.is) (sym c.decimal_in.ensures.value ∙ c.in-Some-decimal_in.is) (simp take_rest at (sym c.place-2.ensures.value ∙ c.in-None.is)) in
    rw e (simp take_rest at c.full_clause.ensures)
