use Rattle.std.proofs.Common.{◌≡◌, ℕ, List, ◌++◌, ◌∷◌, [], map, true, false, Bool, not, cond, refl, sym, ap, ◌∙◌}
use Rattle.std.specs.Str.{bytes_eq}
use Rattle.std.proofs.lemmas.Option.{slice_get_read}
use Rattle.click_base.specs.NameLists.{has_name}
use Rattle.click_base.proofs.NamePlaces.{any_map, added_map}
use Rattle.click_expand.proofs.OfAnswers.FirstRefusal.{repeated, names-more}
use Rattle.click_expand.proofs.final_checks.first_repeated.Goals as goal

twice : (b : Bool) → not (not b) ≡ b
twice true = refl
twice false = refl

pub returns-then-not-added : goal.returns-then-not-added
returns-then-not-added c =
    let v = c.loop-place.invariant in let e = c.index-elements-place.result in let names = c.loop-place.names.keys in
    let h : has_name e.name (map (λ v. v.now) names) ≡ true =
    ap (λ n. has_name n (map (λ v. v.now) names)) (sym c.as_slice.ensures) ∙ any_map (bytes_eq c.as_slice.result.now) (λ v. v.now) names
    ∙ sym (twice _) ∙ ap not (sym c.in_ok-added.ensures.added) ∙ ap not c.if-not-added.true in
    repeated c.args.elements.now c.loop-place.place e (map (λ v. v.now) names) (slice_get_read c.args.elements.now _ c.loop-place.place e refl c.loop-place-test.true c.index-elements-place.is) v.0 v.1 h

pub loop-place-preserved : goal.loop-place-preserved
loop-place-preserved c =
    let v = c.loop-place.invariant in let e = c.index-elements-place.result in let names = c.loop-place.names.keys in
    let ns : List (List ℕ) = map (λ v. v.now) names in
    let h : has_name e.name ns ≡ false =
    ap (λ n. has_name n ns) (sym c.as_slice.ensures) ∙ any_map (bytes_eq c.as_slice.result.now) (λ v. v.now) names
    ∙ sym (twice _) ∙ ap not (sym c.in_ok-added.ensures.added) ∙ ap not c.if-not-added.false in
    names-more c.args.elements.now c.loop-place.place e e ns (map (λ v. v.now) c.insert.new.self.keys) c.loop-place-test.true c.index-elements-place.is v.0 h
    (ap (map (λ v. v.now)) c.in_ok-added.ensures.keys ∙ added_map (bytes_eq c.as_slice.result.now) (λ v. v.now) names c.as_slice.result
    ∙ ap (λ n. cond (has_name n ns) ns (ns ++ n ∷ [])) c.as_slice.ensures) v.1
