use Rattle.std.proofs.Common.{is_ok}
use Rattle.click_control.specs.kept.Lines.{reading_of}
use Rattle.click_control.proofs.SessionLines.{placed_fed}
use Rattle.click_control.proofs.session.Session.feed.Goals as goal

pub invariant_of-self : goal.invariant_of-self
invariant_of-self c =
    let inside = c.self.inside in
    placed_fed (is_ok c.extend_from_slice.result) inside.at inside.searched inside.wanted (reading_of inside.start) inside.buffer.items c.args.piece.now c.extend_from_slice.new.self.items
    c.extend_from_slice.ensures.items c.self.invariant
