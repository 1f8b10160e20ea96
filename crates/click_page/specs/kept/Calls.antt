-- The calls of a page, as its code makes them.
use Rattle.std.specs.Prelude.{◌≡◌, ℕ, List, [], ◌∷◌, Bool, false, Option, Some, None, IfSome, if◌then◌else◌}
use Rattle.click_router.specs.Polls.{is_poll}
use Rattle.click_router.specs.declared.call.Call.{Call}
use Rattle.click_router.specs.declared.call.Call.TheVariants as call

-- the call that reads a handler
abbrev pub read_call : List ℕ → Option Call
read_call handler = Some (call.Read handler [])

-- the call that writes a handler; none on a read-only page
abbrev pub write_call : Bool → List ℕ → List ℕ → Option Call
write_call readonly handler text = if readonly then None else Some (call.Write handler text)

-- none of these calls is a Poll
abbrev pub AreNoPolls : List (Option Call) → Type 0
AreNoPolls [] = Unit {0}
AreNoPolls (c ∷ cs) = IfSome c (λ made. is_poll made ≡ false) × AreNoPolls cs
