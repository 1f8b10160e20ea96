use Rattle.click_control.proofs.StreamCommands.{to_come-fed}
use Rattle.click_control.proofs.laws.pieces_are_one_stream.Goals as goal

pub returns-clause-pieces : goal.returns-clause-pieces
returns-clause-pieces c = λ s piece more. to_come-fed s piece more
