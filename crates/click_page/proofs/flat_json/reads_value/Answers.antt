use Rattle.click_page.proofs.flat_json.reads_value.Goals as goal

pub returns : goal.returns
returns c = rw (← c.reads_of.ensures) c.names_value.ensures
