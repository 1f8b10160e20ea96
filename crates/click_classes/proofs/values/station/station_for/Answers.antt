use Rattle.std.proofs.Common.{◌≡◌, ◌+◌, ◌<◌, List, ◌∷◌, drop, true, false, Some, refl, sym, ap, ◌∙◌, arith}
use Rattle.std.specs.Prelude.{option_map}
use Rattle.std.specs.List.{list_any}
use Rattle.std.proofs.lemmas.List.{drop_more}
use Rattle.click_classes.specs.Gateway.{station_for}
use Rattle.click_classes.specs.Routes.{covers}
use Rattle.click_classes.specs.declared.values.prefix.Prefix.{Prefix}
use Rattle.click_classes.specs.declared.values.station.Station.{Station}
use Rattle.click_classes.proofs.values.station.station_for.Goals as goal

pub returns-then-has_one : goal.returns-then-has_one
returns-then-has_one c =
    let xs = c.args.stations.now in
    let i = c.loop-station.station-index in
    let x : Station = c.station-item.result in
    let more : drop i xs ≡ x ∷ drop (i + 1) xs = drop_more xs i x c.loop-station-test.true ∙ ap (λ (y : Station). y ∷ drop (i + 1) xs) (sym c.station-item.is) in
    let yes : list_any (λ f. covers f c.args.address) x.prefixes ≡ true =
    sym (c.has_one.ensures ∙ ap (λ (ps : List Prefix). list_any (λ f. covers f c.args.address) ps) c.as_slice.ensures) ∙ c.if-has_one.true in
    let found : station_for (drop i xs) c.args.address ≡ Some x = rw (more, yes) refl in
    ap (option_map (λ (s : Station). s.ether)) (sym found ∙ c.loop-station.invariant)

pub loop-station-preserved : goal.loop-station-preserved
loop-station-preserved c =
    let xs = c.args.stations.now in
    let i = c.loop-station.station-index in
    let x : Station = c.station-item.result in
    let more : drop i xs ≡ x ∷ drop (i + 1) xs = drop_more xs i x c.loop-station-test.true ∙ ap (λ (y : Station). y ∷ drop (i + 1) xs) (sym c.station-item.is) in
    let no : list_any (λ f. covers f c.args.address) x.prefixes ≡ false =
    sym (c.has_one.ensures ∙ ap (λ (ps : List Prefix). list_any (λ f. covers f c.args.address) ps) c.as_slice.ensures) ∙ c.if-has_one.false in
    let next : station_for (drop i xs) c.args.address ≡ station_for (drop (i + 1) xs) c.args.address = rw (more, no) refl in
    sym next ∙ c.loop-station.invariant
