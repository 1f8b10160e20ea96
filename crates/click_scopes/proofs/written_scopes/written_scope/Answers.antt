use Rattle.std.proofs.Common.{◌++◌, [], sym, ap, subst}
use Rattle.std.proofs.lemmas.List.{append-nil}
use Rattle.click_scopes.specs.kept.Scoped.{ports_in}
use Rattle.click_scopes.specs.kept.Standing.{written_ports}
use Rattle.click_scopes.proofs.OfLists.StatementTables.{Kept, kept-first, kept-next, more-more}
use Rattle.click_scopes.proofs.OfNames.Synonyms.{renamed-first, renamed-next, renamed-all, ports-next, ports-all}
use Rattle.click_scopes.proofs.written_scopes.written_scope.Goals as goal

pub loop-statement-preserved : goal.loop-statement-preserved
loop-statement-preserved c =
    let v = c.loop-statement.invariant in let es = c.loop-statement.class_table.items in let new = c.define.new.class_table.items in
    let ws = c.loop-statement.written.items in let all = c.args.statements.now in let i = c.loop-statement.statement-index in
    record {
      grows = more-more _ es new v.grows c.define.ensures.grows;
      kept = λ visible h.
          kept-next c.args.text.now es new c.args.nested_body.body c.loop-statement.visible_class c.in_ok-visible_class.visible_class ws c.push_elements.new.written.items
          _ c.loop-statement.nested_bodies.items c.push_nested_bodies.new.nested_bodies.items visible
          all i _ c.statement-item.result c.loop-statement-test.true c.statement-item.is c.define.ensures.grows
          c.in_ok-push_elements.ensures c.in_ok-push_nested_bodies.ensures c.in_ok-visible_class.ensures.shows (v.kept visible h);
      ports = ports-next ws c.push_elements.new.written.items c.loop-statement.visible_class all i _ c.statement-item.result c.loop-statement-test.true c.statement-item.is
          c.in_ok-push_elements.ensures v.ports;
      synonyms = λ visible h.
          renamed-next c.args.text.now visible _ es new c.loop-statement.visible_class all i _ c.statement-item.result c.loop-statement-test.true c.statement-item.is
          (v.kept visible h).shows c.in_ok-visible_class.ensures.adds (v.synonyms visible h);
    }

pub loop-statement-init : goal.loop-statement-init
loop-statement-init c =
    let text = c.args.text.now in let es = c.args.class_table.now.items in let nested_bodies = c.args.nested_bodies.now.items in let ss = c.args.statements.now in
    record {
      grows = ([], sym (append-nil es));
      kept = λ visible h.
          subst (λ ws. Kept text es c.args.nested_body.body c.args.nested_body.visible_class ws nested_bodies nested_bodies visible 0 ss) (sym c.new-written.ensures.items)
          (kept-first text es c.args.nested_body.body c.args.nested_body.visible_class nested_bodies visible ss h);
      ports = ap (λ ws. written_ports ws ++ ports_in ss) c.new-written.ensures.items;
      synonyms = λ visible h. renamed-first text visible es ss;
    }

pub returns-clause-ports : goal.returns-clause-ports
returns-clause-ports c = ports-all c.loop-statement.written.items c.args.statements.now c.loop-statement.statement-index c.loop-statement-test.false c.loop-statement.invariant.ports

pub returns-clause-synonyms : goal.returns-clause-synonyms
returns-clause-synonyms c = λ visible h.
    renamed-all c.args.text.now visible _ c.loop-statement.class_table.items c.args.statements.now c.loop-statement.statement-index c.loop-statement-test.false
    (c.loop-statement.invariant.synonyms visible h)
