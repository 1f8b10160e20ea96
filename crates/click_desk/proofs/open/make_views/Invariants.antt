use Rattle.std.proofs.Common.{◌≡◌, ◌≤◌, vec_len, vec_capacity}
use Rattle.std.specs.List.{All}
use Rattle.click_desk.proofs.open.make_views.Given as goal

abbrev pub invariant-loop-number : goal.invariant-loop-number
invariant-loop-number g l = record {
  len : vec_len l.views ≡ l._number;
  room : l.count ≤ vec_capacity l.views;
  made : All (λ v. v ≡ l.published) l.views.items;
}
