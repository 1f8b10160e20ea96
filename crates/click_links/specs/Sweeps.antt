-- What a sweep over the devices does.
use Rattle.std.specs.Prelude.{◌≡◌, ℕ, ◌<◌, Bool, List, [], ◌∷◌, ◌++◌, length, map}
use Rattle.std.specs.List.{All}
use Rattle.click_rings.specs.Feeds.{FeedName}
use Rattle.click_router.specs.declared.call.Call.{Call}
use Rattle.click_router.specs.declared.call.Call.TheVariants as call
use Rattle.click_router.specs.declared.call.Reply.{Reply}
use Rattle.click_router.specs.declared.call.Reply.TheVariants as reply
use Rattle.click_links.specs.declared.turns.Turn.{Turn}
use Rattle.click_links.specs.Ends.{Attempt}
use Rattle.click_links.specs.Turns.{IsTurn, Ends}

-- The number of packets that the tasks of a Round emitted or pulled, by its reply.
abbrev pub count_worked : Reply → ℕ
count_worked (reply.Value value) = 0
count_worked reply.Done = 0
count_worked (reply.Refused why) = 0
count_worked (reply.Entered count) = 0
count_worked (reply.Worked count) = count
count_worked (reply.Sent packet) = 0
count_worked reply.NoDevice = 0

-- One turn of each of these devices, in order.
abbrev pub EachTurn : List (List ℕ) → List FeedName → List (Call × Reply) → List (Call × Reply) → List Attempt → List Attempt → List Turn → Type 0
EachTurn [] feeds calls calls2 before after [] = (calls2 ≡ calls) × (after ≡ before)
EachTurn [] feeds calls calls2 before after (t ∷ ts) = ⊥
EachTurn (d ∷ ds) feeds calls calls2 before after [] = ⊥
EachTurn (d ∷ ds) feeds calls calls2 before after (t ∷ ts) =
    (mid : List (Call × Reply)) × (sent : List Attempt) × IsTurn d feeds calls mid before sent t × EachTurn ds feeds mid calls2 sent after ts

-- A Round, with its reply.
abbrev pub round : Reply → Call × Reply
round r = (call.Round, r)

-- The Round found work.
abbrev pub IsWork : Reply → Type 0
IsWork r = 0 < count_worked r

-- The Round found no work.
abbrev pub IsNoWork : Reply → Type 0
IsNoWork r = count_worked r ≡ 0

-- Rounds were made, each of which found work.
pub record Rounds (calls calls2 : List (Call × Reply)) (count : ℕ) : Type 0 where
  pub worked : List Reply
  pub made : calls2 ≡ calls ++ map round worked
  pub each : All IsWork worked
  pub many : length worked ≡ count

-- Rounds were made until one found no work, or 16 found work.
pub record RoundsUntil (calls calls2 : List (Call × Reply)) (count : ℕ) (more : Bool) : Type 0 where
  pub worked : List Reply
  pub last : List Reply
  pub made : calls2 ≡ (calls ++ map round worked) ++ map round last
  pub each : All IsWork worked
  pub many : length worked ≡ count
  pub ends : Ends IsNoWork 16 more count last

-- A sweep: one turn of each device, in order, and then Rounds until one found no work or 16 found
-- work.
pub record IsSweep (devices : List (List ℕ)) (feeds : List FeedName) (calls calls2 : List (Call × Reply)) (before after : List Attempt) (turns : List Turn) (count : ℕ) (more : Bool) : Type 0 where
  pub between : List (Call × Reply)
  pub each : EachTurn devices feeds calls between before after turns
  pub rounds : RoundsUntil between calls2 count more
