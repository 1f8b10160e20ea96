use Rattle.click_page.proofs.flat_json.writes_value.Goals as goal

pub returns : goal.returns
returns c = rw (← c.writes_of.ensures) c.names_value.ensures
