-- The outcome of a step of a connection.
use Rattle.std.specs.declared.io.ErrorKind.{ErrorKind}
use Rattle.std.specs.declared.io.ErrorKind.TheVariants.{WouldBlock, Interrupted}
use Rattle.click_http.specs.declared.step.Step.{Step}
use Rattle.click_http.specs.declared.step.Step.TheVariants.{More, Wait, Over}

-- The outcome of a read or write that failed: the socket is not ready, the call was interrupted, or
-- the connection is broken.
abbrev pub step_after : ErrorKind → Step
step_after WouldBlock = Wait
step_after Interrupted = More
step_after _ = Over
