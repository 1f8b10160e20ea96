use Rattle.std.proofs.Common.{refl, arith}
use Rattle.std.proofs.lemmas.Result.{err_from_is_err_and}
use Rattle.click_control.proofs.SessionProgress.{Serves-greeting, SoFar-greeted, SoFar-took, Serves-end, Serves-read, Serves-spent, commands-nil}
use Rattle.click_control.proofs.serving.serve_turns.Goals as goal

pub returns-in_err-greet : goal.returns-in_err-greet
returns-in_err-greet g c =
    let p = err_from_is_err_and c.from_residual.result c.from_residual.ensures.1 in
    rw (p.1, p.2) (Serves-greeting g.P.Port.asks g.T.Turns.turn g.T.Turns.done c.args.readonly c.args.reads c.in_err-greet.field-0.0 c.args.port.now c.args.turns.now _ _ _
    c.in_err-greet.ensures)

pub loop-reads-init : goal.loop-reads-init
loop-reads-init g c = record {
  so_far = rw c.new-session.ensures (SoFar-greeted g.P.Port.asks g.T.Turns.turn g.T.Turns.done c.args.readonly c.args.reads c.args.port.now c.args.turns.now _ _ _
      c.in_ok-greet.ensures);
  all_taken = rw c.new-session.ensures commands-nil;
  room = refl;
  bound = rw c.new-session.ensures (omega arith);
}

pub returns-in_err-feed_piece : goal.returns-in_err-feed_piece
returns-in_err-feed_piece g c =
    let p = err_from_is_err_and c.from_residual-in_err-feed_piece.result c.from_residual-in_err-feed_piece.ensures.1 in
    let now = c.loop-reads in
    rw (p.1, p.2) (Serves-read g.P.Port.asks g.T.Turns.turn g.T.Turns.done c.args.readonly c.args.reads c.in_err-feed_piece.field-0.0 c.args.port.now now.port c.args.turns.now now.turns
    _ _ _ _ _ now.session c.feed_piece.new.session now.taken now._reads now.invariant.so_far now.invariant.all_taken (omega arith) c.in_err-feed_piece.ensures.takes)

pub returns-then-not-branch : goal.returns-then-not-branch
returns-then-not-branch g c =
    let now = c.loop-reads in
    let took = rw c.if-not-branch.true at c.in_ok-feed_piece.ensures.takes in
    Serves-end g.P.Port.asks g.T.Turns.turn g.T.Turns.done c.args.readonly c.args.reads c.args.port.now now.port c.args.turns.now now.turns _ _ _ _ _ now.session c.feed_piece.new.session
    now.taken now._reads now.invariant.so_far now.invariant.all_taken (omega arith) took

pub returns-in_err-ended : goal.returns-in_err-ended
returns-in_err-ended g c =
    let p = err_from_is_err_and c.from_residual-in_err-ended.result c.from_residual-in_err-ended.ensures.1 in
    let now = c.loop-reads in
    let took = rw c.if-not-branch.false at c.in_ok-feed_piece.ensures.takes in
    let so_far = SoFar-took g.P.Port.asks g.T.Turns.turn g.T.Turns.done c.args.readonly c.args.reads c.args.port.now now.port c.args.turns.now now.turns _ _ _ _ _ now.session
    c.feed_piece.new.session now.taken now._reads now.invariant.so_far (omega arith) took in
    rw (p.1, p.2) (c.in_err-ended.ensures.goes c.args.reads c.args.port.now c.args.turns.now _ _ _ _ so_far)

pub returns-in-Some : goal.returns-in-Some
returns-in-Some g c =
    let now = c.loop-reads in
    let took = rw c.if-not-branch.false at c.in_ok-feed_piece.ensures.takes in
    let so_far = SoFar-took g.P.Port.asks g.T.Turns.turn g.T.Turns.done c.args.readonly c.args.reads c.args.port.now now.port c.args.turns.now now.turns _ _ _ _ _ now.session
    c.feed_piece.new.session now.taken now._reads now.invariant.so_far (omega arith) took in
    let went = rw c.in-Some.is at c.in_ok-ended.ensures.goes in
    went c.args.reads c.args.port.now c.args.turns.now _ _ _ _ so_far

pub loop-reads-preserved : goal.loop-reads-preserved
loop-reads-preserved g c =
    let now = c.loop-reads in
    let took = rw c.if-not-branch.false at c.in_ok-feed_piece.ensures.takes in
    let so_far = SoFar-took g.P.Port.asks g.T.Turns.turn g.T.Turns.done c.args.readonly c.args.reads c.args.port.now now.port c.args.turns.now now.turns _ _ _ _ _ now.session
    c.feed_piece.new.session now.taken now._reads now.invariant.so_far (omega arith) took in
    let went = rw c.in_default.is at c.in_ok-ended.ensures.goes in
    record {
      so_far = went c.args.reads c.args.port.now c.args.turns.now _ _ _ _ so_far;
      all_taken = rw c.in_default.is at c.in_ok-ended.ensures.all_taken;
      room = omega arith;
      bound = omega (arith, now.invariant.bound, c.in_ok-feed_piece.ensures.bound, c.in_ok-ended.ensures.bound);
    }

pub returns : goal.returns
returns g c =
    let now = c.loop-reads in
    Serves-spent g.P.Port.asks g.T.Turns.turn g.T.Turns.done c.args.readonly c.args.reads c.args.port.now now.port c.args.turns.now now.turns _ _ _ _ now.session now.taken now._reads
    now.invariant.so_far now.invariant.all_taken (omega arith)
