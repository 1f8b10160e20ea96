use Rattle.std.proofs.Common.{◌≡◌, ◌+◌, [], Some, sym, ap, ◌∙◌, refl}
use Rattle.click_scopes.specs.Elements.{head_name}
use Rattle.click_base.specs.NameLists.{has_name}
use Rattle.click_scopes.specs.declared.written_connections.Declared.{Declared}
use Rattle.click_scopes.proofs.OfElements.StatementElements.{undeclared, has_name-added, declared_by, declared_by-yes, declared_by-no, declared_by-all}
use Rattle.click_scopes.proofs.OfElements.DeclaredNames.{declaring-none, declaring-as, declaring-next, declaring-other, elements_by, declaring-all}
use Rattle.click_scopes.proofs.written_connections.declared_in.Goals as goal
use Rattle.click_scopes.proofs.written_connections.declared_in.Goals.{in-Declared+in_ok-add, in_default}

pub loop-place-preserved : goal.loop-place-preserved
loop-place-preserved c =
    let text = c.args.text.now in let ws = c.args.written.now in let i = c.loop-place.place in let old = c.loop-place.declared in let v = c.loop-place.invariant in
    elim c.match-one.branch [
      | in-Declared+in_ok-add w ↦
          let name = w.of.result.now in
          let is : head_name text _ ≡ Some name = ap (head_name text) w.in-Declared.is ∙ ap Some (sym w.of.ensures) in
          let names = ap (λ (d : Declared). d.names) w.declared-is ∙ w.in_ok-add.ensures.names in
          let firsts = ap (λ (d : Declared). d.firsts.items) w.declared-is ∙ w.in_ok-add.ensures.firsts in
          record {
            firsts = declaring-next text ws i _ _ old.names old.firsts.items c.match-one.declared.names c.match-one.declared.firsts.items name c.loop-place-test.true refl is names firsts v.firsts;
            has = λ q.
                ap (has_name q) names ∙ has_name-added old.names (declared_by text ws i) name v.has q
                ∙ ap (has_name q) (sym (declared_by-yes text ws i _ _ name c.loop-place-test.true refl is));
          }
      | in_default w ↦
          let is = undeclared text _ w.in_default.not-Declared in
          record {
            firsts = declaring-as text (elements_by ws (i + 1)) old.names c.match-one.declared.names old.firsts.items c.match-one.declared.firsts.items
                (sym (ap (λ (d : Declared). d.names) w.declared-is)) (sym (ap (λ (d : Declared). d.firsts.items) w.declared-is))
                (declaring-other text ws i _ _ old.names old.firsts.items c.loop-place-test.true refl is v.firsts);
            has = λ q.
                ap (λ (d : Declared). has_name q d.names) w.declared-is ∙ v.has q
                ∙ ap (has_name q) (sym (declared_by-no text ws i _ _ c.loop-place-test.true refl is));
          }
    ]

pub loop-place-init : goal.loop-place-init
loop-place-init c = record {
  firsts = declaring-as c.args.text.now [] [] c.in_ok-names.names [] c.in_ok-firsts.firsts.items (sym c.in_ok-names.ensures) (sym c.in_ok-firsts.ensures.items) (declaring-none c.args.text.now);
  has = λ q. ap (has_name q) c.in_ok-names.ensures;
}

pub returns-clause-first : goal.returns-clause-first
returns-clause-first c = declaring-all c.args.text.now c.args.written.now c.loop-place.place c.loop-place.declared.names c.loop-place.declared.firsts.items c.loop-place-test.false c.loop-place.invariant.firsts

pub returns-clause-has : goal.returns-clause-has
returns-clause-has c = λ q. c.loop-place.invariant.has q ∙ ap (has_name q) (declared_by-all c.args.text.now c.args.written.now c.loop-place.place c.loop-place-test.false)
