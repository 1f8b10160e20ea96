-- What a pass knows, and how each step changes it.
use Rattle.std.specs.Prelude.{◌≡◌, ◌≢◌, ℕ, ◌+◌, ◌<◌, ◌≤◌, true, false, List, [], length, None}
use Rattle.click_router.specs.declared.call.Call.{Call}
use Rattle.click_router.specs.declared.call.Reply.{Reply}
use Rattle.click_desk.specs.LoggedRouterState.{LoggedRouterState}
use Rattle.click_desk.specs.Bounds.{IsWithin}
use Rattle.click_desk.specs.declared.entry.Entry.{Entry}
use Rattle.click_desk.specs.declared.desk_setup.DeskSetup.{DeskSetup}
use Rattle.click_desk.specs.declared.pass_knowledge.PassKnowledge.{PassKnowledge}
use Rattle.click_desk.specs.History.{entries, StartsWith}

-- The options of a pass that does not know the options of its desk.
abbrev pub no_terms : DeskSetup
no_terms = record { opening = []; room = None; seats = 0; origin = record { tag = []; buckets = [] }; feeds = [] }

-- The first pass. It holds the empty history before the options are known, and will make every
-- seat.
abbrev pub first : PassKnowledge
first = record { opened = false; options = no_terms; holds = true; makes = true; made = 0; acts = false; number = 0; mine = []; seen = []; back = [] }

-- A pass that knows nothing, and may do nothing.
abbrev pub nobody : PassKnowledge
nobody = record { opened = false; options = no_terms; holds = false; makes = false; made = 0; acts = false; number = 0; mine = []; seen = []; back = [] }

-- The pass that has made the seats below a number.
abbrev pub maker : DeskSetup → ℕ → List Entry → PassKnowledge
maker options made seen = record { opened = true; options = options; holds = false; makes = true; made = made; acts = false; number = 0; mine = []; seen = seen; back = [] }

-- The pass of a seat.
abbrev pub seated : DeskSetup → ℕ → List (Call × Reply) → List Entry → PassKnowledge
seated options number mine seen = record { opened = true; options = options; holds = false; makes = false; made = 0; acts = true; number = number; mine = mine; seen = seen; back = [] }

-- A pass without a seat, which may take the logged router and never gives it back.
abbrev pub agent : DeskSetup → PassKnowledge
agent options = record { opened = true; options = options; holds = false; makes = false; made = 0; acts = false; number = 0; mine = []; seen = []; back = [] }

-- An agent that holds the logged router, and knows its whole history.
abbrev pub holding : DeskSetup → List Entry → PassKnowledge
holding options seen = record { opened = true; options = options; holds = true; makes = false; made = 0; acts = false; number = 0; mine = []; seen = seen; back = [] }

-- What a pass knows after it took the logged router.
abbrev pub taken : PassKnowledge → LoggedRouterState → PassKnowledge
taken v x = record v { holds = true; seen = x.entries }

-- What a pass knows after it gave the logged router back.
abbrev pub given : PassKnowledge → LoggedRouterState → PassKnowledge
given v x = record v { opened = true; options = x.options; holds = false; mine = entries x.entries v.number; seen = x.entries }

-- What a pass finds when it takes the logged router. The history begins with what the pass has
-- seen, is within the room, and has no entry of a seat that the desk does not have. The entries of
-- the pass's seat are those that it knows as its own.
abbrev pub Finds : PassKnowledge → LoggedRouterState → Type 0
Finds v x =
    (x.options ≡ v.options) × StartsWith x.entries v.seen × IsWithin x.options.room (length x.entries)
    × (v.acts ≡ true → entries x.entries v.number ≡ v.mine)
    × ((n : ℕ) → v.options.seats ≤ n → entries x.entries n ≡ [])

-- The step of taking the logged router.
abbrev pub Takes : PassKnowledge → LoggedRouterState → PassKnowledge → Type 0
Takes v x w = (w ≡ taken v x) × Finds v x

-- The step of giving the logged router back.
abbrev pub Gives : PassKnowledge → LoggedRouterState → PassKnowledge → Type 0
Gives v x w = w ≡ given v x

-- What a seat may give back: the history that it took, with at most one more entry, which is its
-- own.
pub record MayGive (v : PassKnowledge) (x : LoggedRouterState) : Type 0 where
  pub opened : v.opened ≡ true
  pub holds : v.holds ≡ true
  pub acts : v.acts ≡ true
  pub makes : v.makes ≡ false
  pub number : v.number < v.options.seats
  pub options : x.options ≡ v.options
  pub within : IsWithin x.options.room (length x.entries)
  pub longer : StartsWith x.entries v.seen
  pub one : length x.entries ≤ length v.seen + 1
  pub others : (n : ℕ) → n ≢ v.number → entries x.entries n ≡ entries v.seen n

-- The first give: no other pass has used the queue, and the history is empty.
abbrev pub IsFirstGive : PassKnowledge → LoggedRouterState → Type 0
IsFirstGive v x = (v ≡ first) × (x.entries ≡ [])

-- The pass that makes seats, after it made one more.
abbrev pub one_more : PassKnowledge → PassKnowledge
one_more v = record v { made = v.made + 1 }

-- The pass of the next seat that is made.
abbrev pub next_seat : PassKnowledge → PassKnowledge
next_seat v = seated v.options v.made [] []

-- A seat's pass, joined with an agent that holds the logged router.
abbrev pub met : PassKnowledge → PassKnowledge → PassKnowledge
met v w = record v { holds = true; seen = w.seen; back = v.seen }

-- A seat's pass, split from that agent again.
abbrev pub parted : PassKnowledge → PassKnowledge
parted v = record v { holds = false; seen = v.back; back = [] }

-- What a joined pass learns. The entries of its seat are those that it knows as its own. What the
-- seat has seen is a prefix of the whole history.
abbrev pub Audits : PassKnowledge → List LoggedRouterState → Type 0
Audits v items = StartsWith v.seen v.back × (v.acts ≡ true → entries v.seen v.number ≡ v.mine)
