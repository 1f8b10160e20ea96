-- What a view shows that has learned the notices of all seats of a closed desk.
use Rattle.std.proofs.Common.{◌≡◌, ℕ, zero, suc, ◌+◌, ◌<◌, ◌==◌, slice_index_or, ◌⊎◌, inl, inr, Bool, true, false, cond, List, [], ◌∷◌, ◌++◌, length, count_by, Some, refl, sym, ap, ◌∙◌, subst, append-nil, append_assoc, length-append, arith}
use Rattle.std.proofs.lemmas.Bool.Decides.{nat_tests}
use Rattle.std.specs.List.{All}
use Rattle.std.proofs.lemmas.List.Elements.{All-head, All-tail, All-pop}
use Rattle.std.proofs.lemmas.List.Sums.{sum_by-cons}
use Rattle.click_views.specs.Showing.{BeginsWith}
use Rattle.click_desk.specs.BookState.{BookState}
use Rattle.click_desk.specs.Closing.{Closes, IsEntered}
use Rattle.click_desk.specs.History.{entries, installs}
use Rattle.click_desk.specs.SeatStates.{DeskName, SeatState, IsSeat}
use Rattle.click_desk.specs.declared.entry.Entry.{Entry}
use Rattle.click_desk.proofs.Histories.{entries_append}

-- Two lists, each of which is a prefix of the other, are equal.
same-list : {T : Type 0} (xs ys : List T) → BeginsWith xs ys → BeginsWith ys xs → xs ≡ ys
same-list [] [] p q = refl
same-list [] (y ∷ ys) p q = absurd (let e = ap length p.1 in omega (arith, length-append (y ∷ ys) p.0))
same-list (x ∷ xs) [] p q = absurd (let e = ap length q.1 in omega (arith, length-append (x ∷ xs) q.0))
same-list (x ∷ xs) (y ∷ ys) p q =
    let heads : x ≡ y = cc (p.1) in
    let rest = same-list xs ys (p.0, cc (p.1)) (q.0, cc (q.1)) in
    ap (λ l. x ∷ l) rest ∙ ap (λ z. z ∷ ys) heads

pub begins-along : {T : Type 0} (xs ys zs : List T) → BeginsWith xs ys → BeginsWith ys zs → BeginsWith xs zs
begins-along xs ys zs p q = (q.0 ++ p.0, p.1 ∙ ap (λ l. l ++ p.0) q.1 ∙ append_assoc zs q.0 p.0)

which : (b : Bool) (c : ℕ) → cond b 1 0 + c ≡ 1 → (b ≡ true) ⊎ (c ≡ 1)
which true c e = inl refl
which false c e = inr (omega (arith, e))

-- There is a seat with this number, and what holds for all seats holds for it.
pub seat-of : (P : SeatState → Type 0) (n : ℕ) (seats : List SeatState) → All P seats → count_by (λ (s : SeatState). s.number == n) seats ≡ 1 → (s : SeatState) × (s.number ≡ n) × P s
seat-of P n [] all one = absurd (omega (arith, one))
seat-of P n (s ∷ ss) all one =
    elim (which (s.number == n) (count_by (λ (t : SeatState). t.number == n) ss) (sym (sum_by-cons (λ (t : SeatState). cond (t.number == n) 1 0) s ss) ∙ one)) [
      | inl same ↦ (s, grind (arith, nat_tests, same), All-head P s ss all)
      | inr rest ↦ seat-of P n ss (All-tail P s ss all) rest
    ]

-- A history that is not empty has a last entry.
ends-in : (e : Entry) (es : List Entry) → (before : List Entry) × (last : Entry) × (e ∷ es ≡ before ++ last ∷ [])
ends-in e [] = ([], e, refl)
ends-in e (f ∷ es) = let r = ends-in f es in (e ∷ r.0, r.1, ap (λ l. e ∷ l) r.2)

-- A seat that has seen all of its own entries, among them the last entry of the history, has seen
-- the whole history.
whole : (history seen more before : List Entry) (last : Entry) (n : ℕ) → history ≡ seen ++ more → history ≡ before ++ last ∷ [] → last.seat ≡ n
    → entries history n ≡ entries seen n → seen ≡ history
whole history seen [] before last n cut ends own same = sym (cut ∙ append-nil seen)
whole history seen (m ∷ ms) before last n cut ends own same =
    let r = ends-in m ms in
    let again : history ≡ (seen ++ r.0) ++ r.1 ∷ [] = cut ∙ (ap (λ l. seen ++ l) r.2 ∙ sym (append_assoc seen r.0 (r.1 ∷ []))) in
    let lasts : r.1 ≡ last = last-one (seen ++ r.0) before r.1 last (sym again ∙ ends) in
    let mine : r.1.seat ≡ n = ap (λ (e : Entry). e.seat) lasts ∙ own in
    let parts : entries history n ≡ entries seen n ++ entries (m ∷ ms) n = ap (λ l. entries l n) cut ∙ entries_append seen (m ∷ ms) n in
    let tail : entries (m ∷ ms) n ≡ entries r.0 n ++ entries (r.1 ∷ []) n = ap (λ l. entries l n) r.2 ∙ entries_append r.0 (r.1 ∷ []) n in
    let one : length (entries (r.1 ∷ []) n) ≡ 1 = own-one r.1 n mine in
    absurd (omega (arith, ap length (sym parts ∙ same), ap length tail, length-append (entries seen n) (entries (m ∷ ms) n), length-append (entries r.0 n) (entries (r.1 ∷ []) n), one))
  where
    last-one : (xs ys : List Entry) (x y : Entry) → xs ++ x ∷ [] ≡ ys ++ y ∷ [] → x ≡ y
    last-one [] [] x y e = cc
    last-one [] (b ∷ ys) x y e = absurd (let l : 1 ≡ length ((b ∷ ys) ++ y ∷ []) = ap length e in omega (arith, length-append (b ∷ ys) (y ∷ [])))
    last-one (a ∷ xs) [] x y e = absurd (let l : length ((a ∷ xs) ++ x ∷ []) ≡ 1 = ap length e in omega (arith, length-append (a ∷ xs) (x ∷ [])))
    last-one (a ∷ xs) (b ∷ ys) x y e = last-one xs ys x y (let t : xs ++ x ∷ [] ≡ ys ++ y ∷ [] = cc in t)

    own-one : (e : Entry) (n : ℕ) → e.seat ≡ n → length (entries (e ∷ []) n) ≡ 1
    own-one e n is =
        let same : (e.seat == n) ≡ true = grind (arith, nat_tests) in
        let more : entries (e ∷ []) n ≡ (e.call, e.reply) ∷ [] = rw same refl in
        ap length more

-- What holds for a seat whose notice a view has learned.
record IsTold (desk : DeskName) (history : List Entry) (list : List (List ℕ)) (s : SeatState) : Type 0 where
  of : s.desk ≡ desk
  entered : IsEntered history s
  sound : IsSeat s
  told : BeginsWith list (installs s.desk.options.opening s.seen)

-- Some seat has seen the whole history.
seen-whole : (desk : DeskName) (history : List Entry) (list : List (List ℕ)) (seats : List SeatState) → 0 < length seats → All (IsTold desk history list) seats
    → All (λ e. count_by (λ (s : SeatState). s.number == e.seat) seats ≡ 1) history → (s : SeatState) × (s.seen ≡ history) × IsTold desk history list s
seen-whole desk history list [] some all numbered = absurd (omega (arith, some))
seen-whole desk [] list (s ∷ ss) some all numbered =
    let told = All-head (IsTold desk [] list) s ss all in
    (s, none s.seen told.entered.1.0 told.entered.1.1, told)
  where
    none : (seen more : List Entry) → [] ≡ seen ++ more → seen ≡ []
    none [] more e = refl
    none (x ∷ seen) more e = absurd (let l = ap length e in omega (arith, length-append (x ∷ seen) more))
seen-whole desk (e ∷ es) list (s ∷ ss) some all numbered =
    let r = ends-in e es in
    let last = r.1 in
    let seats = s ∷ ss in
    let one : count_by (λ (t : SeatState). t.number == last.seat) seats ≡ 1 =
    (All-pop (λ (x : Entry). count_by (λ (t : SeatState). t.number == x.seat) seats ≡ 1) (e ∷ es) r.0 (Some last) r.2 numbered).1 in
    let found = seat-of (IsTold desk (e ∷ es) list) last.seat seats all one in
    let t = found.0 in
    let told = found.2 in
    let same : entries (e ∷ es) t.number ≡ entries t.seen t.number = told.entered.0 ∙ sym told.sound.own in
    (t, whole (e ∷ es) t.seen told.entered.1.0 r.0 last t.number told.entered.1.1 r.2 (sym found.1) same, told)

-- A view that has learned the notice of each seat, and that the book has met, shows all installed
-- configurations.
pub shows-all : (desk : DeskName) (seats : List SeatState) (book : BookState) (list : List (List ℕ)) → 0 < length seats → All (λ s. s.desk ≡ desk) seats → Closes desk seats book
    → All (λ s. IsSeat s × BeginsWith list (installs s.desk.options.opening s.seen)) seats → BeginsWith (installs book.opening book.entries) list
    → list ≡ installs book.opening book.entries
shows-all desk seats book list some of closes told met =
    let numbered = closes.numbered in
    let all : All (IsTold desk book.entries list) seats =
    λ k d below. let t = told k d below in record { of = of k d below; entered = closes.entered k d below; sound = t.0; told = t.1 } in
    let found = seen-whole desk book.entries list seats some all numbered in
    let s = found.0 in
    let t = found.2 in
    let opening : s.desk.options.opening ≡ book.opening = ap (λ (d : DeskName). d.options.opening) t.of ∙ sym closes.opening in
    let is : installs s.desk.options.opening s.seen ≡ installs book.opening book.entries = ap (λ o. installs o s.seen) opening ∙ ap (installs book.opening) found.1 in
    same-list list (installs book.opening book.entries) (subst (λ l. BeginsWith list l) is t.told) met

-- The item at an index inside a list does not depend on the default for an index outside.
pub same-at : (xs : List SeatState) (k : ℕ) (d e : SeatState) → k < length xs → slice_index_or xs k d ≡ slice_index_or xs k e
same-at [] k d e below = absurd (omega (arith, below))
same-at (x ∷ xs) zero d e below = refl
same-at (x ∷ xs) (suc k) d e below = same-at xs k d e (omega (arith, below))
