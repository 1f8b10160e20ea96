-- A swap, which replaces the running configuration or is refused (Click manual, "hot swapping").
use Rattle.std.specs.Prelude.{◌≡◌, ℕ, List}
use Rattle.click_engine.specs.TakeOver as plants
use Rattle.click_router.specs.Opened.{IsOpened, IsFirstFault}
use Rattle.click_router.specs.State.{RouterState}
use Rattle.click_router.specs.declared.call.Refusal.TheVariants as refusal
use Rattle.click_router.specs.declared.call.Reply.{Reply}
use Rattle.click_router.specs.declared.call.Reply.TheVariants as reply
use Rattle.click_router.specs.declared.fault.ConfigFault.{ConfigFault}

-- The new router after it took over from the old one. Its elements take over from the old elements
-- with their flat name and class: queues the packets, Counters the counts, Switches the position.
-- The number of overruns is taken over too.
abbrev pub taken : RouterState → RouterState → RouterState
taken new old = record new { plant = plants.taken new.plant old.plant }

-- The reply refuses the text for its first fault.
abbrev pub IsRefused : List ℕ → Reply → Type 0
IsRefused text r = (f : ConfigFault) × IsFirstFault text f × (r ≡ reply.Refused (refusal.Config f))

-- A text that opens a router is installed. A text with a fault is refused for its first fault, and
-- changes nothing.
pub data Swaps (old : RouterState) (text : List ℕ) : RouterState → Reply → Type 0 where
  installed : (new : RouterState) → IsOpened text new → Swaps old text (taken new old) reply.Done
  refused : (f : ConfigFault) → IsFirstFault text f → Swaps old text old (reply.Refused (refusal.Config f))
