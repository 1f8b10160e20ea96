use Rattle.std.proofs.Common.{◌≡◌, Some, ap, ◌∙◌}
use Rattle.std.specs.List.{slice_get}
use Rattle.std.specs.Option.{option_copied}
use Rattle.click_expand.proofs.OfConnections.OutputSearches.{item-is}
use Rattle.click_expand.proofs.OfConnections.PassthroughSearch.{leads-through}
use Rattle.click_expand.proofs.connections.passthrough.outputs_through.Goals as goal

pub returns-then-are_outputs : goal.returns-then-are_outputs
returns-then-are_outputs c = λ ends short bodies h.
    let done = c.args.done.now in let b = c.args.body in
    let there : slice_get done b ≡ Some c.in_ok-get.field-0.now = item-is done b c.get.result c.get.ensures.lookup ∙ ap option_copied c.in_ok-get.was in
    leads-through ends bodies short done b c.args.number c.in_ok-get.field-0.now c.ends-ends.result.now h there c.ends-ends.ensures (c.are_outputs.ensures c.if-are_outputs.true)
