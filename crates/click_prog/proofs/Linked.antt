-- Lemmas on parsing values as links, one after another.
use Rattle.std.proofs.Common.{Bool, ◌≡◌, ◌<◌, ◌≤◌, ◌+◌, ◌∙◌, ℕ, zero, suc, List, [], ◌∷◌, ◌++◌, Bor, length, get_or, map, take, true, false, arith, sym, refl}
use Rattle.std.specs.List.{All, AllPairs, AllZip, list_any}
use Rattle.std.specs.Str.{bytes_eq}
use Rattle.std.proofs.lemmas.List.{get_or-map, get_or-take, length-map, length-take-le, take_all, take_more}
use Rattle.std.proofs.lemmas.List.Elements.{All-push}
use Rattle.std.proofs.lemmas.List.Folds.{Any-from_list_any, list_any_at}
use Rattle.std.proofs.lemmas.List.Quantifiers.{all_pairs_push}
use Rattle.std.proofs.lemmas.Slice.Eq.{bytes_eq-Decides}
use Rattle.std.proofs.lemmas.Slice.Zip.{AllZip-long, all_zipped_more}
use Rattle.click_prog.specs.Links.{AreApart, AreLinks, HasTwoPlaces, IsLink, IsTwice}
use Rattle.click_prog.specs.declared.link.Link.{Link}

-- the value is the link
abbrev pub Spells : Bor (List ℕ) → Link → Type 0
Spells value link = IsLink value.now link

-- a link of the device is in the list, by the test of the code
abbrev has_device : List Link → List ℕ → Bool
has_device links device = list_any (λ l. bytes_eq l.device.now device) links

spelled-all : (values : List (Bor (List ℕ))) (links : List Link) → AllZip Spells values links → AllZip IsLink (map (λ v. v.now) values) links
spelled-all [] [] spelled = tt
spelled-all [] (l ∷ links) spelled = absurd spelled
spelled-all (v ∷ values) [] spelled = absurd spelled
spelled-all (v ∷ values) (l ∷ links) spelled = (spelled.0, spelled-all values links spelled.1)

spelled-at : (values : List (Bor (List ℕ))) (links : List Link) → AllZip Spells values links → (k : ℕ) (d : Bor (List ℕ)) (e : Link) → k < length values
    → IsLink (get_or values k d).now (get_or links k e)
spelled-at [] links spelled k d e lt = absurd (omega arith)
spelled-at (v ∷ values) [] spelled k d e lt = absurd spelled
spelled-at (v ∷ values) (l ∷ links) spelled zero d e lt = spelled.0
spelled-at (v ∷ values) (l ∷ links) spelled (suc k) d e lt = spelled-at values links spelled.1 k d e (omega arith)

-- one more link
pub spelled-more : (values : List (Bor (List ℕ))) (links : List Link) (n : ℕ) (d : Bor (List ℕ)) (link : Link) → n < length values → AllZip Spells (take n values) links
    → IsLink (get_or values n d).now link → AllZip Spells (take (n + 1) values) (links ++ link ∷ [])
spelled-more values links n d link lt so_far spells = rw (take_more values n d lt) (all_zipped_more Spells (take n values) links (get_or values n d) link so_far spells)

pub apart-more : (links : List Link) (link : Link) → AllPairs AreApart links → has_device links link.device.now ≡ false → AllPairs AreApart (links ++ link ∷ [])
apart-more links link apart new = all_pairs_push AreApart links link apart (λ k d lt same.
    let found = list_any_at (λ (l : Link). bytes_eq l.device.now link.device.now) links k d lt ((bytes_eq-Decides (get_or links k d).device.now link.device.now).1 same) in
    let bad : false ≡ true = sym new ∙ found in
    cc)

-- one more link with two addresses
pub distinct-more : (links : List Link) (link : Link) → All HasTwoPlaces links → (link.here ≡ link.there → ⊥) → All HasTwoPlaces (links ++ link ∷ [])
distinct-more links link so_far new = All-push HasTwoPlaces links link so_far new

-- a device that is in the list already occurs again
pub twice-of : (values : List (Bor (List ℕ))) (links : List Link) (n : ℕ) (d : Bor (List ℕ)) (link : Link) → n < length values → AllZip Spells (take n values) links
    → IsLink (get_or values n d).now link → has_device links link.device.now ≡ true → IsTwice (map (λ v. v.now) values) link.device.now
twice-of values links n d link lt so_far spells found =
    let any = Any-from_list_any (λ (l : Link). bytes_eq l.device.now link.device.now) links found in
    let long = AllZip-long Spells (take n values) links so_far in
    let shorter = length-take-le n values (omega arith) in
    let before : any.0 < n = omega (arith, any.2) in
    record {
      first = any.0;
      later = n;
      order = before;
      within = rw length-map lt;
      one = λ e.
          let there = spelled-at (take n values) links so_far any.0 d any.1 (omega arith) in
          let spelled : IsLink (get_or values any.0 d).now any.1 = rw (any.3, get_or-take n values any.0 d before) at there in
          (any.1, rw (get_or-map (λ (v : Bor (List ℕ)). v.now) values any.0 d e (omega arith)) spelled, (bytes_eq-Decides any.1.device.now link.device.now).0 any.4);
      other = λ e. (link, rw (get_or-map (λ (v : Bor (List ℕ)). v.now) values n d e lt) spells, refl);
    }

-- all values were parsed
pub links-of : (values : List (Bor (List ℕ))) (links : List Link) (n : ℕ) → length values ≤ n → length values ≤ 16 → AllZip Spells (take n values) links → All HasTwoPlaces links
    → AllPairs AreApart links → AreLinks (map (λ v. v.now) values) links
links-of values links n all few spelled distinct apart =
    let whole : AllZip Spells values links = rw take_all at spelled in
    let long = AllZip-long Spells values links whole in
    record { each = spelled-all values links whole; few = omega arith; distinct = distinct; apart = apart }
