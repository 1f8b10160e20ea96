use Rattle.std.proofs.Common.{arith}
use Rattle.click_cli.proofs.ArgumentLists.{argued-more, parsed_values}
use Rattle.click_cli.proofs.options.parse.Goals as goal

pub loop-option-preserved : goal.loop-option-preserved
loop-option-preserved c =
    rw c.in_ok-push.ensures.items (argued-more c.args.options.now c.loop-option.arguments.items c.loop-option.option-index _ c.argument.result c.loop-option-test.true c.loop-option.invariant
    (record { plain = c.argument.ensures.plain; needed = c.argument.ensures.needed }))

pub returns-clause-values : goal.returns-clause-values
returns-clause-values c =
    parsed_values c.args.command c.in_ok-command.command c.args.options.now c.loop-option.arguments.items c.loop-option.option-index c.in_ok-matches.matches (omega arith) c.loop-option.invariant
    c.requires.new c.requires.apart c.in_ok-command.ensures c.in_ok-matches.ensures.parsed
