use Rattle.std.proofs.Common.{◌≡◌, ◌++◌}
use Rattle.form_urlencoded.specs.Form.{raw_pairs}
use Rattle.form_urlencoded.specs.Parse.{raw_pairs_left}
use Rattle.click_page.specs.Asking.{handlers_in}
use Rattle.click_page.proofs.queries.handlers_in.Given as goal

-- the handlers so far and then those to come are the handlers of the query
abbrev pub invariant-loop-value : goal.invariant-loop-value
invariant-loop-value l = l.handlers.items ++ handlers_in (raw_pairs_left l.value-iterator) ≡ handlers_in (raw_pairs l.query)
