use Rattle.click_handlers.proofs.rows.WriteRow.answer.Goals as goal

pub returns : goal.returns
returns g c = (c.args.self.now.answers c.args.alloc c.args.element c.args.text c.requires).1 c.write_through.result c.write_through.ensures
