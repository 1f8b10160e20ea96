use Rattle.std.proofs.Common.{◌≡◌, ◌∙◌, ◌∷◌, ◌++◌, [], ap, map, sym, arith}
use Rattle.std.specs.List.{range_with_len}
use Rattle.std.proofs.lemmas.List.FromFn.{map-range_with_len_more}
use Rattle.click_engine.specs.kept.Tables.{first_at}
use Rattle.click_engine.proofs.adjacency.first_ends.Goals as goal

pub loop-at-preserved : goal.loop-at-preserved
loop-at-preserved c =
    let f = first_at c.args.net.now c.args.side in let at = c.loop-at.at in
    let end = rw c.shapes-count.ensures.value at c.far_in.ensures ∙ c.ends_at.ensures 0 in
    rw (c.in_ok-push.ensures.items, c.loop-at.invariant) (ap (λ e. map f (range_with_len 0 at) ++ e ∷ []) end ∙ sym (map-range_with_len_more f 0 at at (omega arith)))
