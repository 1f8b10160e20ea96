-- Why serving ends.
use Rattle.std.specs.Prelude.{Option, Some, None, Result, Ok, Err}
use Rattle.std.specs.IoError.{error_kind}
use Rattle.std.specs.declared.io.Error.{Error}
use Rattle.click_http.specs.declared.serving.Ended.{Ended}
use Rattle.click_http.specs.declared.serving.Ended.TheVariants.{Failed}

-- A round that failed ends serving, with the kind of its error. No other round does.
abbrev pub ended_by : {T : Type 0} → Result T Error → Option Ended
ended_by (Ok _) = None
ended_by (Err e) = Some (Failed (error_kind e))
