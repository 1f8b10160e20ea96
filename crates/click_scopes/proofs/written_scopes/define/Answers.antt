use Rattle.std.proofs.Common.{◌≡◌, ◌∷◌, None, Some, length, sym, subst, rules}
use Rattle.std.proofs.lemmas.List.{append-nil}
use Rattle.click_scopes.specs.kept.Tables.{Shows}
use Rattle.click_scopes.proofs.OfLists.StatementTables.{defined, undefined}
use Rattle.click_scopes.proofs.written_scopes.define.Goals as goal

pub returns-in_ok-push-in-Some-clause-shows : goal.returns-in_ok-push-in-Some-clause-shows
returns-in_ok-push-in-Some-clause-shows c = λ visible h.
    let text = c.args.text.now in let es = c.args.class_table.now.items in let st = c.args.statement.now in let e = c.in-Some.entry in
    let k : c.len-place.result ≡ length es = search rules in
    let d = defined text es c.args.visible_class visible st e (c.in-Some.ensures visible (subst (λ x. Shows text x c.args.visible_class visible) (sym c.as_slice.ensures.value) h)) h in
    subst (λ n. Shows text c.push.new.self.items (Some n) (st ∷ visible)) (sym k)
    (subst (λ x. Shows text x (Some (length es)) (st ∷ visible)) (sym c.in_ok-push-in-Some.ensures.items) d)

pub returns-in_ok-push-in-Some-clause-adds : goal.returns-in_ok-push-in-Some-clause-adds
returns-in_ok-push-in-Some-clause-adds c = λ visible h.
    let text = c.args.text.now in let e = c.in-Some.entry in
    record {
      entry = Some e;
      is = c.in-Some.ensures visible (subst (λ x. Shows text x c.args.visible_class visible) (sym c.as_slice.ensures.value) h);
      added = c.in_ok-push-in-Some.ensures.items;
    }

pub returns-in-None-clause-adds : goal.returns-in-None-clause-adds
returns-in-None-clause-adds c = λ visible h.
    record {
      entry = None;
      is = c.in-None.ensures visible (subst (λ x. Shows c.args.text.now x c.args.visible_class visible) (sym c.as_slice.ensures.value) h);
      added = sym (append-nil c.args.class_table.now.items);
    }

pub returns-in-None-clause-shows : goal.returns-in-None-clause-shows
returns-in-None-clause-shows c = λ visible h.
    undefined c.args.text.now c.args.class_table.now.items c.args.visible_class visible c.args.statement.now
    (c.in-None.ensures visible (subst (λ x. Shows c.args.text.now x c.args.visible_class visible) (sym c.as_slice.ensures.value) h)) h
