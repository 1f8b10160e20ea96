use Rattle.std.proofs.Common.{◌≡◌, ◌≤◌, length, map, take, vec_len, vec_capacity}
use Rattle.click_page.specs.kept.Calls.{read_call}
use Rattle.click_page.proofs.calls.read_calls.Given as goal

abbrev pub invariant-loop-handler : goal.invariant-loop-handler
invariant-loop-handler l = record {
  made : l.calls.items ≡ map read_call (take l.handler-index l.handlers);
  len : vec_len l.calls ≡ l.handler-index;
  room : length l.handlers ≤ vec_capacity l.calls;
}
