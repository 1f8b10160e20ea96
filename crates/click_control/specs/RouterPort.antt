-- The effect of a call on a router that a session has to itself.
use Rattle.std.specs.Prelude.{◌≡◌, Result, Ok, Err}
use Rattle.click_router.specs.State.{RouterState}
use Rattle.click_router.specs.One.{Answers}
use Rattle.click_router.specs.declared.call.Call.{Call}
use Rattle.click_router.specs.declared.call.Reply.{Reply}
use Rattle.click_control.specs.declared.port.AskFault.{AskFault}
use Rattle.click_control.specs.declared.port.AskFault.TheVariants as ask

-- one call of the router; or out of memory, with the router unchanged
abbrev pub Steps : RouterState → Call → Result Reply AskFault → RouterState → Type 0
Steps old c (Ok reply) new = Answers old c new reply
Steps old c (Err f) new = (f ≡ ask.NoMemory) × (new ≡ old)
