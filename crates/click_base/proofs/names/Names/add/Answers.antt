use Rattle.std.proofs.Common.{◌≡◌, ℕ, List, ◌∷◌, [], ◌++◌, ◌∙◌, ap, cond, map, not, sym}
use Rattle.std.specs.List.{list_any}
use Rattle.std.specs.Str.{bytes_eq}
use Rattle.click_base.specs.NameLists.{has_name}
use Rattle.click_base.proofs.NamePlaces.{added_map, any_map, not_not}
use Rattle.click_base.proofs.names.Names.add.Goals as goal

pub returns-clause-taken : goal.returns-clause-taken
returns-clause-taken c =
    let kept = c.in_ok-from_slice.field-0 in
    ap not c.in_ok-added.ensures.added ∙ not_not _
    ∙ ap (λ n. list_any (λ v. bytes_eq n v.items) c.self.inside.set.keys) c.in_ok-from_slice.ensures.items
    ∙ sym (any_map (bytes_eq c.args.name.now) (λ v. v.items) c.self.inside.set.keys) ∙ ap (has_name c.args.name.now) c.self.view_is

pub returns-clause-added : goal.returns-clause-added
returns-clause-added c =
    let kept = c.in_ok-from_slice.field-0 in
    let is : kept.items ≡ c.args.name.now = c.in_ok-from_slice.ensures.items in
    ap (map (λ v. v.items)) c.in_ok-added.ensures.keys
    ∙ added_map (bytes_eq kept.items) (λ v. v.items) c.self.inside.set.keys kept
    ∙ ap (λ n. cond (has_name n (map (λ v. v.items) c.self.inside.set.keys)) (map (λ v. v.items) c.self.inside.set.keys) (map (λ v. v.items) c.self.inside.set.keys ++ n ∷ [])) is
    ∙ ap (λ (ns : List (List ℕ)). cond (has_name c.args.name.now ns) ns (ns ++ c.args.name.now ∷ [])) c.self.view_is
