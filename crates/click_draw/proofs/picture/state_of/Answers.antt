use Rattle.std.proofs.Common.{refl}
use Rattle.click_draw.proofs.OpenedNet.{holds-not-fails, refused-memory}
use Rattle.click_draw.proofs.picture.state_of.Goals as goal

pub unreachable-requires : goal.unreachable-requires
unreachable-requires c =
    let memory = refused-memory c.args.element.now c.as_slice.result.now c.make.result c.in-Err.fault c.requires c.as_slice.ensures c.make.ensures.only c.in-Err.is in
    holds-not-fails c.eq.result (rw c.eq.ensures (rw memory refl)) c.if-eq.false
