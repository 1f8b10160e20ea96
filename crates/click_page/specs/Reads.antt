-- Commands and calls that only read.
use Rattle.std.specs.Prelude.{◌≡◌, ℕ, List, map, Bool, true, false, Option, Some, None}
use Rattle.std.specs.List.{list_all}
use Rattle.click_router.specs.declared.call.Call.{Call}
use Rattle.click_router.specs.declared.call.Call.TheVariants as call
use Rattle.click_control.specs.declared.command.Command.{Command}
use Rattle.click_control.specs.declared.command.Command.TheVariants as command
use Rattle.click_control.specs.Serving.{call_of}

-- the command reads a handler
abbrev pub is_read : Command → Bool
is_read (command.Read handler text) = true
is_read (command.Write handler text) = false
is_read (command.CheckRead handler) = false
is_read (command.CheckWrite handler) = false
is_read command.Quit = false
is_read command.Syntax = false
is_read command.LineTooLong = false
is_read command.DataTooLong = false
is_read (command.Unknown word) = false

-- the call, if there is one, reads a handler
abbrev pub is_read_call : Option Call → Bool
is_read_call None = true
is_read_call (Some (call.Read name text)) = true
is_read_call (Some (call.Write name text)) = false
is_read_call (Some (call.CheckRead name)) = false
is_read_call (Some (call.CheckWrite name)) = false
is_read_call (Some (call.Swap text)) = false
is_read_call (Some (call.Arrive device packet)) = false
is_read_call (Some (call.Poll device taken)) = false
is_read_call (Some call.Round) = false
is_read_call (Some (call.Transmit device)) = false

-- each of these commands reads a handler
abbrev pub AreReads : List Command → Type 0
AreReads commands = list_all is_read commands ≡ true

-- each of the calls that these commands make reads a handler
abbrev pub MakeReads : Bool → List Command → Type 0
MakeReads readonly commands = list_all is_read_call (map (call_of readonly) commands) ≡ true
