use Rattle.std.proofs.Common.{◌≡◌, ◌+◌, length}
use Rattle.form_urlencoded.specs.Form.{raw_pairs}
use Rattle.form_urlencoded.specs.Parse.{raw_pairs_left}
use Rattle.click_page.specs.Asking.{are_handlers}
use Rattle.click_page.proofs.queries.handler_count.Given as goal

-- the pairs so far are handlers, and are counted
abbrev pub invariant-loop-name : goal.invariant-loop-name
invariant-loop-name l = record {
  counted : l.count + length (raw_pairs_left l.name-iterator) ≡ length (raw_pairs l.query);
  handlers : are_handlers (raw_pairs l.query) ≡ are_handlers (raw_pairs_left l.name-iterator);
  can_next : (goal.iterator-loop-name).can_next l.name-iterator;
  finite : (goal.iterator-loop-name).is_finite l.name-iterator;
}
