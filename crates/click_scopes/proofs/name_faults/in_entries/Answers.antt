use Rattle.std.proofs.Common.{◌≡◌, length, refl, ap, ◌∙◌, subst, arith}
use Rattle.click_scopes.specs.kept.NameFaults.{IsWrongEntry}
use Rattle.click_scopes.specs.kept.FirstFault.{IsLeast, first_of}
use Rattle.click_scopes.proofs.OfFaults.PlaceNameFaults.{class_table-none, class_table-next}
use Rattle.click_scopes.proofs.name_faults.in_entries.Goals as goal

pub loop-entry-init : goal.loop-entry-init
loop-entry-init c = class_table-none c.args.class_table.now

pub loop-entry-preserved : goal.loop-entry-preserved
loop-entry-preserved c =
    class_table-next c.args.class_table.now c.loop-entry.entry-index _ _ c.loop-entry.first _ c.loop-entry-test.true refl
    (c.first_of-first.ensures ∙ ap (first_of c.loop-entry.first) c.unknown_original.ensures) c.loop-entry.invariant

pub returns : goal.returns
returns c =
    let is : c.loop-entry.entry-index ≡ length c.args.class_table.now =
    (let a = c.loop-entry.auto.entry-index-end in let t = c.loop-entry-test.false in omega (arith, a, t)) in
    subst (λ n. IsLeast (IsWrongEntry c.args.class_table.now n) c.loop-entry.first) is c.loop-entry.invariant
