use Rattle.std.proofs.lemmas.List.Filters.{dedup_is}
use Rattle.std.proofs.lemmas.List.Kept.{Contains-dedup, Contains-from_dedup, IsStrictlySortedBy-dedup}
use Rattle.std.proofs.lemmas.List.Sorted.{Contains-permutation, IsPermutation-sym}
use Rattle.click_expand.proofs.OfConnections.ConnectionOrder.{compare_total, same, same_equiv, ties, exact, InOrder-from_sorted}
use Rattle.click_expand.proofs.connections.order.in_order.Goals as goal

pub returns-clause-order : goal.returns-clause-order
returns-clause-order c =
    rw (dedup_is same _ _ c.dedup.ensures.filtered) (InOrder-from_sorted _ (IsStrictlySortedBy-dedup compare_total ties _ c.sort_unstable.ensures.sorted))

pub returns-clause-same : goal.returns-clause-same
returns-clause-same c =
    let is = dedup_is same _ _ c.dedup.ensures.filtered in
    let moved = c.sort_unstable.ensures.permutation in
    λ x. (
      λ h. Contains-permutation _ _ x (IsPermutation-sym _ _ moved) (Contains-from_dedup same _ x (rw is at h)),
      λ h. rw is (Contains-dedup same_equiv exact _ x (Contains-permutation _ _ x moved h)),
    )
