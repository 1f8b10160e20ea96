use Rattle.std.proofs.Common.{sym, ap, ◌∙◌, subst}
use Rattle.click_scopes.specs.kept.NameFaults.{IsWrongAt}
use Rattle.click_scopes.specs.kept.FirstFault.{IsLeast, IsNameFault, first_of}
use Rattle.click_scopes.proofs.OfFaults.FirstNameFault.{first-name_fault}
use Rattle.click_scopes.proofs.name_faults.first_name_fault.Goals as goal

pub returns : goal.returns
returns c =
    let config = c.args.config.now in let all = c.args.scopes.now.scopes.items in let es = c.args.class_table.now in
    let o = c.in_entries-originals.result in
    subst (IsLeast (IsNameFault config)) (sym (c.first_of-2.ensures ∙ ap (λ x. first_of x o) c.first_of.ensures))
    (first-name_fault config es all c.requires.nested c.requires.scopes.all c.requires.synonyms c.in_ok-whole.whole c.in_ok-bodies.bodies o
    (subst (λ i. IsLeast (IsWrongAt config all i) c.in_ok-whole.whole) c.len.ensures c.in_ok-whole.ensures) c.in_ok-bodies.ensures c.in_entries-originals.ensures)
