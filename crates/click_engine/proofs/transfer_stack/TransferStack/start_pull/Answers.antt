use Rattle.std.proofs.Common.{arith}
use Rattle.click_engine.proofs.OfFrames.FirstFrames.{pulled_ended, pulled_further, still_done, answered_so}
use Rattle.click_engine.proofs.transfer_stack.TransferStack.start_pull.Goals as goal

pub ask_inputs_outlined-requires-clause-done : goal.ask_inputs_outlined-requires-clause-done
ask_inputs_outlined-requires-clause-done c =
    let m = c.self.inside in
    still_done _ m.sending m.push_frames.items m.asks.items m.answered m.room c.self.view_is c.requires.done (omega (arith, c.self.invariant.0, m.push_frames.ok.0)) _

pub ask_inputs-requires-clause-done : goal.ask_inputs-requires-clause-done
ask_inputs-requires-clause-done c =
    let m = c.self.inside in
    still_done _ m.sending m.push_frames.items m.asks.items m.answered m.room c.self.view_is c.requires.done (omega (arith, c.self.invariant.0, m.push_frames.ok.0)) _

pub returns-then-pull_result-eq0-clause-follows : goal.returns-then-pull_result-eq0-clause-follows
returns-then-pull_result-eq0-clause-follows c =
    let m = c.self.inside in
    pulled_ended _ m.sending m.push_frames.items m.asks.items m.answered m.room c.self.view_is c.requires.done _ _ _ _ _ c.pull_first-pull_result.result c.pull_first-pull_result.ensures.reached c.requires.room
    (omega (arith, c.self.invariant.0, m.push_frames.ok.0)) (omega (arith, c.self.invariant.1, m.push_frames.ok.0)) c.if-pull_result-eq0.true

pub returns-then-pull_result-eq0-clause-over : goal.returns-then-pull_result-eq0-clause-over
returns-then-pull_result-eq0-clause-over c =
    let m = c.self.inside in (
      still_done _ m.sending m.push_frames.items m.asks.items m.answered m.room c.self.view_is c.requires.done (omega (arith, c.self.invariant.0, m.push_frames.ok.0)) _,
      answered_so m.push_frames.items _ c.pull_first-pull_result.result.is_answered (omega (arith, c.self.invariant.1, m.push_frames.ok.0)),
    )

pub returns-then-outlined-clause-follows : goal.returns-then-outlined-clause-follows
returns-then-outlined-clause-follows c =
    let m = c.self.inside in
    pulled_further _ m.sending m.push_frames.items m.asks.items m.answered m.room c.self.view_is c.requires.done _ _ _ _ (record c.index_mut-push_frame.result.now { packet = c.pull_first-pull_result.new.packet }) c.pull_first-pull_result.result c.pull_first-pull_result.ensures.reached c.requires.room
    (omega (arith, c.self.invariant.0, m.push_frames.ok.0)) (omega (arith, c.self.invariant.1, m.push_frames.ok.0)) _ _ (omega (arith, c.if-pull_result-eq0.false)) c.ask_inputs_outlined.ensures.follows

pub returns-then-ask_inputs-clause-follows : goal.returns-then-ask_inputs-clause-follows
returns-then-ask_inputs-clause-follows c =
    let m = c.self.inside in
    pulled_further _ m.sending m.push_frames.items m.asks.items m.answered m.room c.self.view_is c.requires.done _ _ _ _ (record c.index_mut-push_frame.result.now { packet = c.pull_first-pull_result.new.packet }) c.pull_first-pull_result.result c.pull_first-pull_result.ensures.reached c.requires.room
    (omega (arith, c.self.invariant.0, m.push_frames.ok.0)) (omega (arith, c.self.invariant.1, m.push_frames.ok.0)) _ _ (omega (arith, c.if-pull_result-eq0.false)) c.ask_inputs.ensures.follows

pub returns-clause-follows : goal.returns-clause-follows
returns-clause-follows c =
    let m = c.self.inside in
    pulled_further _ m.sending m.push_frames.items m.asks.items m.answered m.room c.self.view_is c.requires.done _ _ _ _ (record c.index_mut-push_frame.result.now { packet = c.pull_first-pull_result.new.packet }) c.pull_first-pull_result.result c.pull_first-pull_result.ensures.reached c.requires.room
    (omega (arith, c.self.invariant.0, m.push_frames.ok.0)) (omega (arith, c.self.invariant.1, m.push_frames.ok.0)) _ _ (omega (arith, c.if-pull_result-eq0.false)) c.ask_inputs.ensures.follows
