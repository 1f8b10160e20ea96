use Rattle.click_handlers.proofs.rows.add_read.Goals as goal

pub new-requires : goal.new-requires
new-requires g c = rw c.in_ok-name.ensures.items c.requires
