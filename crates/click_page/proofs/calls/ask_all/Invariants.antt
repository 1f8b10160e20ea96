use Rattle.std.proofs.Common.{◌≡◌, ◌≤◌, ◌+◌, Bool, List, ◌++◌, length, map, vec_len, vec_capacity}
use Rattle.std.specs.Vec.Iter.{into_iter_items}
use Rattle.click_control.specs.Serving.{Asked, call_of}
use Rattle.click_control.specs.declared.command.Command.{Command}
use Rattle.click_page.specs.kept.Calls.{AreNoPolls}
use Rattle.click_page.proofs.calls.ask_all.Given as goal

-- the calls so far were made, and there is room for the answers to the others
abbrev pub invariant-loop-call : goal.invariant-loop-call
invariant-loop-call g l = record {
  asked : (readonly : Bool) (commands : List Command) → l.yielded ≡ map (call_of readonly) commands
      → Asked g.P.Port.asks readonly l.initial.port commands l.answers.items l.port;
  rest : l.fn.calls.items ≡ l.yielded ++ into_iter_items l.call-iterator;
  no_polls : AreNoPolls (into_iter_items l.call-iterator);
  room : vec_len l.answers + length (into_iter_items l.call-iterator) ≤ vec_capacity l.answers;
  can_next : (goal.iterator-loop-call g).can_next l.call-iterator;
  finite : (goal.iterator-loop-call g).is_finite l.call-iterator;
}
