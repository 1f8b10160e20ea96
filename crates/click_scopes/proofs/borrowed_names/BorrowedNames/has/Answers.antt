use Rattle.std.proofs.Common.{sym, ◌∙◌, ap}
use Rattle.std.specs.Str.{bytes_eq}
use Rattle.click_base.specs.NameLists.{has_name}
use Rattle.click_base.proofs.NamePlaces.{any_map}
use Rattle.click_scopes.proofs.borrowed_names.BorrowedNames.has.Goals as goal

pub returns : goal.returns
returns c = c.contains.ensures ∙ sym (any_map (bytes_eq c.args.name.now) (λ v. v.now) c.self.inside.set.keys) ∙ ap (has_name c.args.name.now) c.self.view_is
