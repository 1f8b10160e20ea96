-- Lists of feeds, of which the first is settled.
use Rattle.std.proofs.Common.{◌≡◌, ◌<◌, ℕ, suc, true, List, [], ◌∷◌, length, get_or, map, refl, sym, ap, ◌∙◌, arith}
use Rattle.std.specs.List.{All, remove}
use Rattle.click_rings.specs.Feeds.{FeedName, ConsumerState, name_of, have_distinct_devices}
use Rattle.click_desk.specs.Polls.{without}
use Rattle.click_desk.proofs.Settlements.{own_ring, others_left}

-- the first and the others
split : (ds : List FeedName) (n : FeedName) → 0 < length ds → n ≡ get_or ds 0 n → ds ≡ n ∷ remove ds 0
split [] n some is = absurd (omega arith)
split (d ∷ ds) n some is = ap (λ x. x ∷ ds) (sym is)

-- a settlement of the first finds its ring
pub first-ring : (ds : List FeedName) (n : FeedName) (consumers : List ConsumerState) → 0 < length ds → n ≡ get_or ds 0 n → map name_of consumers ≡ ds → have_distinct_devices ds ≡ true
    → All (λ i. i.device ≡ n.device → i.ring ≡ n.ring) consumers
first-ring ds n consumers some is names apart =
    own_ring n (remove ds 0) consumers (names ∙ split ds n some is) (ap have_distinct_devices names ∙ apart)

-- after it the others are left
pub first-settled : (ds : List FeedName) (n : FeedName) (consumers : List ConsumerState) → 0 < length ds → n ≡ get_or ds 0 n → map name_of consumers ≡ ds
    → map name_of (without n.device consumers) ≡ remove ds 0
first-settled ds n consumers some is names = others_left n (remove ds 0) consumers (names ∙ split ds n some is)

-- lists of which each element is the other's
pub same-each : (xs ys : List FeedName) → length ys ≡ length xs → ((i : ℕ) (d : FeedName) → i < length xs → get_or ys i d ≡ get_or xs i d) → ys ≡ xs
same-each [] [] many each = refl
same-each [] (y ∷ ys) many each = absurd (omega arith)
same-each (x ∷ xs) [] many each = absurd (omega arith)
same-each (x ∷ xs) (y ∷ ys) many each =
    let first : y ≡ x = each 0 x (omega arith) in
    let rest : ys ≡ xs = same-each xs ys (omega arith) (λ i d below. each (suc i) d (omega arith)) in
    (λ k. first k ∷ rest k)
