-- The outcome of one more session slot or driver.
use Rattle.std.proofs.Common.{◌≡◌, ℕ, zero, suc, ◌+◌, ◌≤◌, ◌-◌, min, Bool, List, [], ◌∷◌, ◌++◌, length, map, Option, Some, None, IfSome, MatchOption, refl, sym, ap, ◌∙◌, subst, append_assoc, append-nil, length-append, arith}
use Rattle.std.specs.Prelude.{option_to_list}
use Rattle.std.specs.List.{All}
use Rattle.std.proofs.lemmas.List.Elements.{All-nil, All-cons, All-head, All-tail, All-push}
use Rattle.click_rings.specs.Feeds.{FeedName}
use Rattle.click_router.specs.declared.call.Call.TheVariants as call
use Rattle.click_desk.specs.Closing.{IsEachOnce}
use Rattle.click_desk.proofs.SeatedEntries.{new_once, same_once}
use Rattle.click_desk.specs.SeatStates.{DeskName, SeatState, new_seat, seats_below}
use Rattle.click_streams.specs.Peers.{Input, Output}
use Rattle.click_workers.specs.declared.session.SessionEnd.{SessionEnd}
use Rattle.click_workers.specs.declared.work.Outcome.{Outcome}
use Rattle.click_workers.specs.declared.work.Outcome.TheVariants as outcome
use Rattle.click_workers.specs.Seats.{IsOf, SameSeat}
use Rattle.click_workers.specs.Work.{Attends, AttendedInTurn, CameOf, DrivesFor, DroveFor, InTurn, SideBySide, Ready, Worked, drives_of, ends_of, numbers_below}

snoc-inj : (xs ys : List SeatState) (x y : SeatState) → xs ++ x ∷ [] ≡ ys ++ y ∷ [] → (xs ≡ ys) × (x ≡ y)
snoc-inj [] [] x y e = (refl, cc)
snoc-inj [] (b ∷ ys) x y e = absurd (let l : 1 ≡ length ((b ∷ ys) ++ y ∷ []) = ap length e in omega (arith, length-append (b ∷ ys) (y ∷ [])))
snoc-inj (a ∷ xs) [] x y e = absurd (let l : length ((a ∷ xs) ++ x ∷ []) ≡ 1 = ap length e in omega (arith, length-append (a ∷ xs) (x ∷ [])))
snoc-inj (a ∷ xs) (b ∷ ys) x y e =
    let head : a ≡ b = cc in
    let tail : xs ++ x ∷ [] ≡ ys ++ y ∷ [] = cc in
    let k = snoc-inj xs ys x y tail in
    (ap (λ z. z ∷ xs) head ∙ ap (λ l. b ∷ l) k.0, k.1)

-- The last of the new seats, and those before it.
pub last-new : (desk : DeskName) (feeds : List FeedName) (m n : ℕ) (seats front : List SeatState) (x : SeatState) → seats ≡ seats_below desk feeds n → seats ≡ front ++ x ∷ [] → n ≡ suc m
    → (front ≡ seats_below desk feeds m) × (x ≡ new_seat desk feeds m)
last-new desk feeds m n seats front x all cut is =
    snoc-inj front (seats_below desk feeds m) x (new_seat desk feeds m) (sym cut ∙ all ∙ ap (seats_below desk feeds) is)

-- Lists that are related pairwise stay so if a related pair is appended.
pub pairs-push : {X Y : Type 0} (R : X → Y → Type 0) (xs : List X) (ys : List Y) (x : X) (y : Y) → SideBySide R xs ys → R x y → SideBySide R (xs ++ x ∷ []) (ys ++ y ∷ [])
pairs-push R [] [] x y h r = (r, tt)
pairs-push R [] (b ∷ ys) x y h r = absurd h
pairs-push R (a ∷ xs) [] x y h r = absurd h
pairs-push R (a ∷ xs) (b ∷ ys) x y h r = (h.0, pairs-push R xs ys x y h.1 r)

-- The numbers of seats to which one is appended.
pub map-push : (xs : List SeatState) (x : SeatState) → map (λ (s : SeatState). s.number) (xs ++ x ∷ []) ≡ map (λ (s : SeatState). s.number) xs ++ x.number ∷ []
map-push [] x = refl
map-push (y ∷ xs) x = ap (λ l. y.number ∷ l) (map-push xs x)

empty-of : (xs : List SeatState) → length xs ≡ 0 → xs ≡ []
empty-of [] e = refl
empty-of (x ∷ xs) e = absurd (omega arith)

-- New seats have the numbers below n.
pub new-numbers : (desk : DeskName) (feeds : List FeedName) (n : ℕ) → map (λ (s : SeatState). s.number) (seats_below desk feeds n) ≡ numbers_below n
new-numbers desk feeds zero = refl
new-numbers desk feeds (suc n) = map-push (seats_below desk feeds n) (new_seat desk feeds n) ∙ ap (λ l. l ++ n ∷ []) (new-numbers desk feeds n)

pub seats-many : (desk : DeskName) (feeds : List FeedName) (n : ℕ) → length (seats_below desk feeds n) ≡ n
seats-many desk feeds zero = refl
seats-many desk feeds (suc n) = omega (arith, length-append (seats_below desk feeds n) (new_seat desk feeds n ∷ []), seats-many desk feeds n)

-- New seats belong to their desk and have its feeds.
pub new-of : (desk : DeskName) (feeds : List FeedName) (n : ℕ) → All (IsOf desk feeds) (seats_below desk feeds n)
new-of desk feeds zero = All-nil (IsOf desk feeds)
new-of desk feeds (suc n) = All-push (IsOf desk feeds) (seats_below desk feeds n) (new_seat desk feeds n) (new-of desk feeds n) (refl, refl)

-- What holds for all seats holds for those before the last, and for the last.
pub front-and-last : (P : SeatState → Type 0) (xs : List SeatState) (x : SeatState) → All P (xs ++ x ∷ []) → All P xs × P x
front-and-last P [] x h = (All-nil P, All-head P x [] h)
front-and-last P (y ∷ xs) x h =
    let k = front-and-last P xs x (All-tail P y (xs ++ x ∷ []) h) in
    (All-cons P y xs (All-head P y (xs ++ x ∷ []) h) k.0, k.1)

-- A driver's outcome by its own number is its outcome by the number of its seat.
driven-by : {G : Type 0} (gives : G → ℕ → ℕ → Bool → Type 0) (told : G → ℕ → ℕ → Type 0) (gate : G) (who : ℕ) (rounds : Option ℕ) (s : SeatState) (all : Bool) → who ≡ suc s.number
    → DrivesFor gives told gate who rounds s all → DroveFor gives told gate rounds s all
driven-by gives told gate who rounds s all is h = subst (λ w. DrivesFor gives told gate w rounds s all) is h

attended-by : {D Rd Wr G : Type 0} (lets_in : D → ℕ → Option (Rd × Wr) → Type 0) (input : Rd → Input) (output : Wr → Output) (gives : G → ℕ → ℕ → Bool → Type 0) (told : G → ℕ → ℕ → Type 0)
    (door : D) (gate : G) (readonly : Bool) (who turns : ℕ) (seat s : SeatState) (e : SessionEnd) → who ≡ suc s.number → seat ≡ new_seat s.desk s.feeds s.number
    → InTurn (Attends lets_in input output gives told door gate readonly who) turns seat s e → AttendedInTurn lets_in input output gives told door gate readonly turns s e
attended-by lets_in input output gives told door gate readonly who turns seat s e is fresh h =
    subst (λ w. InTurn (Attends lets_in input output gives told door gate readonly w) turns (new_seat s.desk s.feeds s.number) s e) is
    (subst (λ o. InTurn (Attends lets_in input output gives told door gate readonly who) turns o s e) fresh h)

-- A driver made only Rounds, whatever number of them it was to make.
pub drove-alone : {G : Type 0} (gives : G → ℕ → ℕ → Bool → Type 0) (told : G → ℕ → ℕ → Type 0) (gate : G) (rounds : Option ℕ) (s : SeatState) (all : Bool)
    → DroveFor gives told gate rounds s all → All (λ p. p.0 ≡ call.Round) s.calls
drove-alone gives told gate None s all h = h.1.rounds_alone
drove-alone gives told gate (Some rounds) s all h = h.rounds_alone

-- One more session of a slot.
pub one-more : (attends : SeatState → SeatState → SessionEnd → Type 0) (n : ℕ) (old between new : SeatState) (before last : SessionEnd) → 1 ≤ n
    → InTurn attends n old between before → attends between new last → InTurn attends (n + 1) old new last
one-more attends zero old between new before last some h one = absurd (omega arith)
one-more attends (suc n) old between new before last some h one =
    let more : InTurn attends (suc (suc n)) old new last = (between, before, h, one) in
    let is : suc (suc n) ≡ suc n + 1 = omega arith in
    subst (λ k. InTurn attends k old new last) is more

module _ (attends : SeatState → SessionEnd → Type 0) (drives : SeatState → Bool → Type 0) where
  pub worked-none : (sessions : ℕ) → Worked attends drives sessions 0 [] [] []
  worked-none sessions = record {
    first = [];
    others = [];
    parts = refl;
    many = refl;
    numbers = refl;
    first_many = omega arith;
    attended = tt;
    driven = tt;
  }

  pub worked-driver : (sessions m : ℕ) (seats : List SeatState) (ended : List SessionEnd) (drivers : List Bool) (s : SeatState) (all : Bool)
      → Worked attends drives sessions m seats ended drivers → sessions ≤ m → s.number ≡ m → drives s all
      → Worked attends drives sessions (suc m) (seats ++ s ∷ []) ended (drivers ++ all ∷ [])
  worked-driver sessions m seats ended drivers s all w over is done = record {
    first = w.first;
    others = w.others ++ s ∷ [];
    parts = ap (λ l. l ++ s ∷ []) w.parts ∙ append_assoc w.first w.others (s ∷ []);
    many = omega (arith, length-append seats (s ∷ []), w.many);
    numbers = map-push seats s ∙ ap (λ l. l ++ s.number ∷ []) w.numbers ∙ ap (λ k. numbers_below m ++ k ∷ []) is;
    first_many = omega (arith, w.first_many, over);
    attended = w.attended;
    driven = pairs-push drives w.others drivers s all w.driven done;
  }

  pub worked-session : (sessions m : ℕ) (seats : List SeatState) (ended : List SessionEnd) (drivers : List Bool) (s : SeatState) (e : SessionEnd)
      → Worked attends drives sessions m seats ended drivers → suc m ≤ sessions → s.number ≡ m → attends s e
      → Worked attends drives sessions (suc m) (seats ++ s ∷ []) (ended ++ e ∷ []) drivers
  worked-session sessions m seats ended drivers s e w under is came =
      let none : w.others ≡ [] = empty-of w.others (omega (arith, w.many, ap length w.parts, length-append w.first w.others, w.first_many, under)) in
      let whole : seats ≡ w.first = w.parts ∙ ap (λ l. w.first ++ l) none ∙ append-nil w.first in
      record {
        first = w.first ++ s ∷ [];
        others = w.others;
        parts = ap (λ l. l ++ s ∷ []) whole ∙ sym (append-nil (w.first ++ s ∷ [])) ∙ ap (λ l. (w.first ++ s ∷ []) ++ l) (sym none);
        many = omega (arith, length-append seats (s ∷ []), w.many);
        numbers = map-push seats s ∙ ap (λ l. l ++ s.number ∷ []) w.numbers ∙ ap (λ k. numbers_below m ++ k ∷ []) is;
        first_many = omega (arith, length-append w.first (s ∷ []), w.first_many, under);
        attended = pairs-push attends w.first ended s e w.attended came;
        driven = w.driven;
      }

pub once-of : (desk : DeskName) (n : ℕ) (seats : List SeatState) → map (λ (s : SeatState). s.number) seats ≡ numbers_below n → IsEachOnce n seats
once-of desk n seats h = same_once n (seats_below desk [] n) seats (new-numbers desk [] n ∙ sym h) (new_once desk [] n)

pub ready-first : (desk : DeskName) (feeds : List FeedName) (sessions workers len : ℕ) (seats : List SeatState) (ended : List SessionEnd) (drivers : List Bool) (e d : ℕ)
    → seats ≡ seats_below desk feeds (sessions + workers) → len ≡ sessions + workers → ended ≡ [] → drivers ≡ [] → e ≡ sessions → d ≡ workers
    → Ready desk sessions len seats ended drivers e d
ready-first desk feeds sessions workers len seats ended drivers e d new many none_ended none_driven ended_room drivers_room = record {
  fresh = (feeds, new ∙ ap (seats_below desk feeds) (sym many));
  none_ended = none_ended;
  none_driven = none_driven;
  room_ended = omega (arith, ended_room);
  room_driven = omega (arith, drivers_room, many);
}

-- What removing the last of the new seats returns and leaves.
pub last-taken : (desk : DeskName) (feeds : List FeedName) (n m : ℕ) (seats front : List SeatState) (r : Option SeatState) → seats ≡ seats_below desk feeds n → seats ≡ front ++ option_to_list r
    → MatchOption r ((n ≡ 0) × (m ≡ 0)) (λ _. m + 1 ≡ n) → IfSome r (λ s. (s ≡ new_seat desk s.feeds m) × (n ≡ m + 1) × (seats ≡ front ++ s ∷ [])) × (front ≡ seats_below desk feeds m)
last-taken desk feeds n m seats front None all cut h = (tt, sym (append-nil front) ∙ sym cut ∙ all ∙ ap (seats_below desk feeds) (h.0 ∙ sym h.1))
last-taken desk feeds n m seats front (Some x) all cut h =
    let k = last-new desk feeds m n seats front x all cut (omega arith) in
    ((k.1 ∙ ap (λ f. new_seat desk f m) (sym (ap (λ (s : SeatState). s.feeds) k.1)), omega arith, cut), k.0)

pub ready-taken : (desk : DeskName) (sessions n m : ℕ) (seats front : List SeatState) (ended : List SessionEnd) (drivers : List Bool) (e d : ℕ) (feeds : List FeedName)
    → Ready desk sessions n seats ended drivers e d → m ≤ n → front ≡ seats_below desk feeds m → Ready desk sessions m front ended drivers e d
ready-taken desk sessions n m seats front ended drivers e d feeds r less fresh = record {
  fresh = (feeds, fresh);
  none_ended = r.none_ended;
  none_driven = r.none_driven;
  room_ended = omega (arith, r.room_ended, less);
  room_driven = omega (arith, r.room_driven, less);
}

pairs-length : {X Y : Type 0} (R : X → Y → Type 0) (xs : List X) (ys : List Y) → SideBySide R xs ys → length xs ≡ length ys
pairs-length R [] [] h = refl
pairs-length R [] (y ∷ ys) h = absurd h
pairs-length R (x ∷ xs) [] h = absurd h
pairs-length R (x ∷ xs) (y ∷ ys) h = omega (arith, pairs-length R xs ys h.1)

module _ (attends : SeatState → SessionEnd → Type 0) (drives : SeatState → Bool → Type 0) where
  pub ended-many : (sessions n : ℕ) (seats : List SeatState) (ended : List SessionEnd) (drivers : List Bool)
      → Worked attends drives sessions n seats ended drivers → length ended ≡ min n sessions
  ended-many sessions n seats ended drivers w = sym (pairs-length attends w.first ended w.attended) ∙ w.first_many

  pub drivers-many : (sessions n : ℕ) (seats : List SeatState) (ended : List SessionEnd) (drivers : List Bool)
      → Worked attends drives sessions n seats ended drivers → length drivers ≡ n - sessions
  drivers-many sessions n seats ended drivers w =
      omega (arith, pairs-length drives w.others drivers w.driven, w.many, ap length w.parts, length-append w.first w.others, w.first_many)

  pub worked-as : (sessions n n' : ℕ) (seats seats' : List SeatState) (ended ended' : List SessionEnd) (drivers drivers' : List Bool)
      → n' ≡ n → seats' ≡ seats → ended' ≡ ended → drivers' ≡ drivers
      → Worked attends drives sessions n seats ended drivers → Worked attends drives sessions n' seats' ended' drivers'
  worked-as sessions n n' seats seats' ended ended' drivers drivers' a b c d w =
      subst (λ k. Worked attends drives sessions k seats' ended' drivers') (sym a)
      (subst (λ k. Worked attends drives sessions n k ended' drivers') (sym b)
      (subst (λ k. Worked attends drives sessions n seats k drivers') (sym c)
      (subst (λ k. Worked attends drives sessions n seats ended k) (sym d) w)))

  -- One more outcome, of a seat that is appended.
  worked-more : (sessions m who : ℕ) (seats : List SeatState) (ended : List SessionEnd) (drivers : List Bool) (s : SeatState) (o : Outcome)
      → Worked attends drives sessions m seats ended drivers → s.number ≡ m → who ≡ suc m → CameOf attends drives sessions who s o
      → Worked attends drives sessions (suc m) (seats ++ s ∷ []) (ended ++ ends_of o) (drivers ++ drives_of o)
  worked-more sessions m who seats ended drivers s (outcome.Attended e) w is next came =
      worked-as sessions _ _ _ _ _ _ _ _ refl refl refl (append-nil drivers) (worked-session attends drives sessions m seats ended drivers s e w (omega (arith, came.0, next)) is came.1)
  worked-more sessions m who seats ended drivers s (outcome.Drove all) w is next came =
      worked-as sessions _ _ _ _ _ _ _ _ refl refl (append-nil ended) refl (worked-driver attends drives sessions m seats ended drivers s all w (omega (arith, came.0, next)) is came.1)

  -- There is room for one more outcome.
  room-for-more : (sessions m who : ℕ) (seats : List SeatState) (ended : List SessionEnd) (drivers : List Bool) (s : SeatState) (o : Outcome) (e d : ℕ)
      → Worked attends drives sessions m seats ended drivers → who ≡ suc m → CameOf attends drives sessions who s o → min (suc m) sessions ≤ e → suc m - sessions ≤ d
      → (length ended + length (ends_of o) ≤ e) × (length drivers + length (drives_of o) ≤ d)
  room-for-more sessions m who seats ended drivers s (outcome.Attended x) e d w next came ended_room drivers_room =
      let many = ended-many sessions m seats ended drivers w in
      let drove = drivers-many sessions m seats ended drivers w in
      (omega (arith, many, came.0, next, ended_room), omega (arith, drove, came.0, next, drivers_room))
  room-for-more sessions m who seats ended drivers s (outcome.Drove all) e d w next came ended_room drivers_room =
      let many = ended-many sessions m seats ended drivers w in
      let drove = drivers-many sessions m seats ended drivers w in
      (omega (arith, many, came.0, next, ended_room), omega (arith, drove, came.0, next, drivers_room))

-- The outcome of a seat, for relations that follow from the given ones.
came-as : (attends attends' : SeatState → SessionEnd → Type 0) (drives drives' : SeatState → Bool → Type 0) (sessions who : ℕ) (s : SeatState) (o : Outcome)
    → ((e : SessionEnd) → attends s e → attends' s e) → ((all : Bool) → drives s all → drives' s all) → CameOf attends drives sessions who s o → CameOf attends' drives' sessions who s o
came-as attends attends' drives drives' sessions who s (outcome.Attended e) f k came = (came.0, f e came.1)
came-as attends attends' drives drives' sessions who s (outcome.Drove all) f k came = (came.0, k all came.1)

-- The outcomes of all seats up to the last of the new ones, and room for them. They follow from its
-- outcome and from those of the seats before it.
pub one-worked : {D Rd Wr G : Type 0} (lets_in : D → ℕ → Option (Rd × Wr) → Type 0) (input : Rd → Input) (output : Wr → Output) (gives : G → ℕ → ℕ → Bool → Type 0) (told : G → ℕ → ℕ → Type 0)
    (door : D) (gate : G) (readonly : Bool) (turns sessions : ℕ) (rounds : Option ℕ) (desk : DeskName) (n m who e d : ℕ) (news seats : List SeatState) (none ended : List SessionEnd)
    (undriven drivers : List Bool) (seat s : SeatState) (o : Outcome)
    → Ready desk sessions n news none undriven e d → n ≡ m + 1 → who ≡ m + 1 → seat ≡ new_seat desk seat.feeds m → SameSeat seat s
    → CameOf (InTurn (Attends lets_in input output gives told door gate readonly who) turns seat) (DrivesFor gives told gate who rounds) sessions who s o
    → Worked (AttendedInTurn lets_in input output gives told door gate readonly turns) (DroveFor gives told gate rounds) sessions m seats ended drivers
    → Worked (AttendedInTurn lets_in input output gives told door gate readonly turns) (DroveFor gives told gate rounds) sessions n (seats ++ s ∷ []) (ended ++ ends_of o) (drivers ++ drives_of o)
    × (length ended + length (ends_of o) ≤ e) × (length drivers + length (drives_of o) ≤ d)
one-worked lets_in input output gives told door gate readonly turns sessions rounds desk n m who e d news seats none ended undriven drivers seat s o ready more next new same came rest =
    let attends = AttendedInTurn lets_in input output gives told door gate readonly turns in
    let drives = DroveFor gives told gate rounds in
    let number : s.number ≡ m = same.1 ∙ ap (λ (x : SeatState). x.number) new in
    let fresh : seat ≡ new_seat s.desk s.feeds s.number =
    new ∙ ap (λ x. new_seat x seat.feeds m) (sym (same.0 ∙ ap (λ (x : SeatState). x.desk) new)) ∙ ap (λ f. new_seat s.desk f m) (sym same.2) ∙ ap (λ k. new_seat s.desk s.feeds k) (sym number) in
    let is : who ≡ suc s.number = omega (arith, number, next) in
    let last : who ≡ suc m = omega (arith, next) in
    let many : n ≡ suc m = omega (arith, more) in
    let told_so = came-as (InTurn (Attends lets_in input output gives told door gate readonly who) turns seat) attends (DrivesFor gives told gate who rounds) drives sessions who s o
    (λ x h. attended-by lets_in input output gives told door gate readonly who turns seat s x is fresh h) (λ all h. driven-by gives told gate who rounds s all is h) came in
    let room = room-for-more attends drives sessions m who seats ended drivers s o e d rest last told_so (omega (arith, ready.room_ended, many)) (omega (arith, ready.room_driven, many)) in
    (worked-as attends drives sessions _ n _ _ _ _ _ _ many refl refl refl (worked-more attends drives sessions m who seats ended drivers s o rest number last told_so), room.0, room.1)
