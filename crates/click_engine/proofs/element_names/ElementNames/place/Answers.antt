use Rattle.std.proofs.Common.{◌≡◌, ◌<◌, ◌∙◌, Some, None, ap, sym, length, arith}
use Rattle.std.proofs.lemmas.Slice.Eq.{bytes_eq-Decides}
use Rattle.click_engine.specs.kept.Sums.{sum_of, first_with_sum}
use Rattle.click_engine.proofs.OfNames.FirstNames.{first_sum, no_sum, within}
use Rattle.click_engine.proofs.element_names.ElementNames.place.Goals as goal

pub returns-in_err-first : goal.returns-in_err-first
returns-in_err-first c =
    let name = c.args.name.now in let names = c.args.net.now.names in
    let none : None ≡ first_with_sum (sum_of name) 0 names = rw c.sum_of.ensures at c.in_err-first.ensures.value ∙ c.requires (sum_of name) in
    c.from_residual.ensures ∙ no_sum name names (sym none)

pub name-requires : goal.name-requires
name-requires c =
    let name = c.args.name.now in let names = c.args.net.now.names in
    let some : Some c.in_ok-first.field-0.now ≡ first_with_sum (sum_of name) 0 names = rw c.sum_of.ensures at c.in_ok-first.ensures.value ∙ c.requires (sum_of name) in
    omega (arith, (within (sum_of name) 0 names c.in_ok-first.field-0.now (sym some)).1)

pub returns-then-eq : goal.returns-then-eq
returns-then-eq c =
    let name = c.args.name.now in let names = c.args.net.now.names in
    let some : Some c.in_ok-first.field-0.now ≡ first_with_sum (sum_of name) 0 names = rw c.sum_of.ensures at c.in_ok-first.ensures.value ∙ c.requires (sum_of name) in
    first_sum name names c.in_ok-first.field-0.now (sym some) (sym c.name.ensures.value ∙ sym ((bytes_eq-Decides name c.name.result.now).0 (sym c.eq.ensures ∙ c.if-eq.true)))
