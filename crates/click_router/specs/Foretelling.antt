-- What a check foretells of a call that reads or writes the handler.
use Rattle.std.specs.Prelude.{◌≡◌, Bool, true, false}
use Rattle.click_router.specs.One.{check_reply}
use Rattle.click_router.specs.declared.call.Refusal.{Refusal}
use Rattle.click_router.specs.declared.call.Refusal.TheVariants as refusal
use Rattle.click_router.specs.declared.call.Reply.{Reply}
use Rattle.click_router.specs.declared.call.Reply.TheVariants as reply
use Rattle.click_router.specs.declared.check.Check.{Check}
use Rattle.click_router.specs.declared.check.Check.TheVariants as answer

-- the refusals of a handler that does not exist in this direction
abbrev pub lacks_handler : Refusal → Bool
lacks_handler refusal.NoElement = true
lacks_handler refusal.NoHandler = true
lacks_handler refusal.WrongWay = true
lacks_handler (refusal.Handler f) = false
lacks_handler (refusal.Config f) = false

-- a reply of that kind
abbrev pub is_of_none : Reply → Bool
is_of_none (reply.Value value) = false
is_of_none reply.Done = false
is_of_none (reply.Refused why) = lacks_handler why
is_of_none (reply.Entered count) = false
is_of_none (reply.Worked count) = false
is_of_none (reply.Sent packet) = false
is_of_none reply.NoDevice = false

-- If the answer of the check is Yes, the call is not refused as NoElement, NoHandler or WrongWay.
-- Otherwise the call has the reply of the check.
abbrev pub Foretells : Check → Reply → Type 0
Foretells answer.Yes r = is_of_none r ≡ false
Foretells answer.NoElement r = r ≡ check_reply answer.NoElement
Foretells answer.NoHandler r = r ≡ check_reply answer.NoHandler
Foretells answer.WrongWay r = r ≡ check_reply answer.WrongWay
