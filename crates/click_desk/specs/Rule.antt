-- The rule of the single-slot queue. It is about histories, seat numbers and what the desk was
-- opened with: its text, its room, its number of seats, its feeds and its publisher. It mentions
-- neither the router, nor its handlers, nor what was drawn from a feed.
use Rattle.std.specs.Prelude.{◌≡◌, ℕ, ◌≤◌, ◌⊎◌, true, List, [], ◌∷◌, length}
use mathlib.Core.Option.{some}
use lib.ListN.{get_elem?}
use Rattle.click_desk.specs.LoggedRouterState.{LoggedRouterState}
use Rattle.click_desk.specs.Bounds.{IsWithin}
use Rattle.click_desk.specs.declared.entry.Entry.{Entry}
use Rattle.click_desk.specs.declared.desk_setup.DeskSetup.{DeskSetup}
use Rattle.click_desk.specs.declared.pass_knowledge.PassKnowledge.{PassKnowledge}
use Rattle.click_desk.specs.History.{entries, StartsWith}
use Rattle.click_desk.specs.Views.{first}

-- What one pass knows fits the history. A pass that knows the options knows the right ones. What it
-- has seen is a prefix of the history. If it holds the logged router, it alone does. The entries of
-- its seat are those that it knows as its own, and a seat that is not yet made has none.
pub record Fits (items : List LoggedRouterState) (history : List Entry) (options : DeskSetup) (owner : ℕ → ℕ) (holder pass : ℕ) (v : PassKnowledge) : Type 0 where
  pub knows : v.opened ≡ true → v.options ≡ options
  pub seen : StartsWith history v.seen
  pub back : StartsWith history v.back
  pub holds : v.holds ≡ true → (v.opened ≡ true) × (items ≡ []) × (pass ≡ holder) × (v.seen ≡ history)
  pub acts : v.acts ≡ true → (owner v.number ≡ pass) × (entries history v.number ≡ v.mine)
  pub makes : v.makes ≡ true → (n : ℕ) → v.made ≤ n → (owner n ≡ pass) × (entries history n ≡ [])

-- The pass with this index holds the logged router.
abbrev pub IsHeld : List PassKnowledge → ℕ → Type 0
IsHeld views holder = (v : PassKnowledge) × (get_elem? views holder ≡ some v) × (v.holds ≡ true)

-- Either a pass holds the logged router, and the queue is empty; or the logged router is in the
-- queue, with this history.
abbrev pub Place : List LoggedRouterState → List PassKnowledge → List Entry → DeskSetup → ℕ → Type 0
Place items views history options holder =
    ((items ≡ []) × IsHeld views holder) ⊎ ((b : LoggedRouterState) × (items ≡ b ∷ []) × (b.options ≡ options) × (b.entries ≡ history))

-- `F` holds for each pass of the queue, with its index.
abbrev pub AtEachPass : (ℕ → PassKnowledge → Type 0) → List PassKnowledge → Type 0
AtEachPass F views = (pass : ℕ) (v : PassKnowledge) → get_elem? views pass ≡ some v → F pass v

-- The queue and its passes have one history. It is in the queue or held by a pass, it is within the
-- room, and no entry is of a seat that the desk does not have. What each pass knows fits it.
pub record HasOneHistory (items : List LoggedRouterState) (views : List PassKnowledge) : Type 0 where
  pub history : List Entry
  pub options : DeskSetup
  pub owner : ℕ → ℕ
  pub holder : ℕ
  pub place : Place items views history options holder
  pub within : IsWithin options.room (length history)
  pub numbered : (n : ℕ) → options.seats ≤ n → entries history n ≡ []
  pub fits : AtEachPass (Fits items history options owner holder) views

-- The rule. At first there is one pass, which holds the empty history. From the first give on,
-- there is one history.
abbrev pub SingleSlot : List LoggedRouterState → List PassKnowledge → Type 0
SingleSlot items views = ((items ≡ []) × (views ≡ first ∷ [])) ⊎ HasOneHistory items views
