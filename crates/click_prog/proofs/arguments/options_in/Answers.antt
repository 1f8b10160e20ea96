use Rattle.click_prog.proofs.arguments.options_in.Goals as goal

pub returns-in-Some-clause-refused : goal.returns-in-Some-clause-refused
returns-in-Some-clause-refused c = (c.in_ok-options.options, c.in_ok-options.ensures.found, c.in-Some.ensures)

pub returns-in-Some-ending_only_option-clause-refused : goal.returns-in-Some-ending_only_option-clause-refused
returns-in-Some-ending_only_option-clause-refused c = (c.in_ok-options.options, c.in_ok-options.ensures.found, c.in-Some-ending_only_option.ensures)

pub returns-in-Some-live_only_option-clause-refused : goal.returns-in-Some-live_only_option-clause-refused
returns-in-Some-live_only_option-clause-refused c = (c.in_ok-options.options, c.in_ok-options.ensures.found, c.in-Some-live_only_option.ensures)

pub returns-in-Some-port_only_option-clause-refused : goal.returns-in-Some-port_only_option-clause-refused
returns-in-Some-port_only_option-clause-refused c = (c.in_ok-options.options, c.in_ok-options.ensures.found, c.in-Some-port_only_option.ensures)

pub returns-in-Some-partner_option-clause-refused : goal.returns-in-Some-partner_option-clause-refused
returns-in-Some-partner_option-clause-refused c = (c.in_ok-options.options, c.in_ok-options.ensures.found, c.in-Some-partner_option.ensures)
