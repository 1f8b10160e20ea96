-- A lemma on a run of a session with nothing in parallel.
use Rattle.std.proofs.Common.{ℕ, List, Bool, Option}
use Rattle.click_streams.specs.Peers.{Input, Output}
use Rattle.click_prog.specs.Running.{RunsTo, RunsAlone, fresh_input, fresh_output}
use Rattle.click_cli.specs.declared.status.Status.{Status}

-- a run with this source and this sink is a run with some fresh ones
pub alone-of : (text : List ℕ) (readonly : Bool) (input output : Option (List ℕ)) (left : Input) (holds : Output) (s : Status)
    → RunsTo text readonly (fresh_input input) left (fresh_output output) holds s → RunsAlone text readonly s
alone-of text readonly input output left holds s ran = (input, output, left, holds, ran)
