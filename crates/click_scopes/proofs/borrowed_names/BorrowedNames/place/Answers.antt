use Rattle.std.proofs.Common.{sym, ◌∙◌, ap, position}
use Rattle.std.specs.Str.{bytes_eq}
use Rattle.click_base.proofs.NamePlaces.{position_map}
use Rattle.click_scopes.proofs.borrowed_names.BorrowedNames.place.Goals as goal

pub returns : goal.returns
returns c = c.get_index_of.ensures.index ∙ sym (position_map (bytes_eq c.args.name.now) (λ v. v.now) c.self.inside.set.keys) ∙ ap (position (bytes_eq c.args.name.now)) c.self.view_is
