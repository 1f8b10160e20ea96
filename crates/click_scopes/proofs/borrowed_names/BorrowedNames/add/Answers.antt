use Rattle.std.proofs.Common.{ℕ, List, ◌∷◌, [], ◌++◌, cond, map, sym, not, ap, ◌∙◌}
use Rattle.std.specs.Str.{bytes_eq}
use Rattle.click_base.specs.NameLists.{has_name}
use Rattle.click_base.proofs.NamePlaces.{added_map, any_map, not_not}
use Rattle.click_scopes.proofs.borrowed_names.BorrowedNames.add.Goals as goal

pub returns-clause-taken : goal.returns-clause-taken
returns-clause-taken c =
    ap not c.in_ok-added.ensures.added ∙ not_not _
    ∙ sym (any_map (bytes_eq c.args.name.now) (λ v. v.now) c.self.inside.set.keys) ∙ ap (has_name c.args.name.now) c.self.view_is

pub returns-clause-added : goal.returns-clause-added
returns-clause-added c =
    ap (map (λ v. v.now)) c.in_ok-added.ensures.keys
    ∙ added_map (bytes_eq c.args.name.now) (λ v. v.now) c.self.inside.set.keys c.args.name
    ∙ ap (λ (ns : List (List ℕ)). cond (has_name c.args.name.now ns) ns (ns ++ c.args.name.now ∷ [])) c.self.view_is
