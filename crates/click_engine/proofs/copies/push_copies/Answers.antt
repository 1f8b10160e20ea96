use Rattle.std.proofs.Common.{◌∙◌, refl, ap, sym, length, arith}
use Rattle.click_engine.specs.Adjacency.{wiring_of}
use Rattle.click_engine.specs.kept.Tables.{far_of}
use Rattle.click_engine.proofs.OfFrames.OutputFrames.{served_more}
use Rattle.click_engine.proofs.OfPlants.ConnectionTable.{far_within}
use Rattle.click_engine.proofs.copies.push_copies.Goals as goal

pub push_copy-requires-clause-there : goal.push_copy-requires-clause-there
push_copy-requires-clause-there c =
    let frame = c.loop-copy.push_frame in
    far_within (length c.args.adjacency.now.shapes) _ c.far_in.result (c.targets-row.ensures.within c.args.push_frame.now.at frame.first) (rw c.len-count.ensures at c.far_in.ensures ∙ c.targets-row.ensures.row frame.first)

pub loop-copy-preserved : goal.loop-copy-preserved
loop-copy-preserved c =
    let frame = c.loop-copy.push_frame in
    let same = c.loop-copy.invariant.same in
    let n = length c.args.adjacency.now.shapes in
    let target = (wiring_of c.args.adjacency.now).target in
    let joined = rw c.len-count.ensures at c.far_in.ensures ∙ c.targets-row.ensures.row frame.first ∙ ap (λ at. far_of n (target at frame.first)) (sym same) in
    let over = rw c.copy_from.ensures at (c.push_copy.ensures.along frame.at frame.first joined) in
    record {
      same = same;
      served = served_more _ _ _ _ _ frame c.loop-copy.copy _ _ c.loop-copy.invariant.served (omega arith) (omega arith) over c.push_copy.ensures.ends refl refl refl refl;
      count = c.push_copy.ensures.count ∙ c.loop-copy.invariant.count;
    }
