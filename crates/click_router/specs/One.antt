-- One call of a router: the state after it, and the reply (Click manual, "Handlers"; TOCS 2000,
-- "Packet transfer").
use Rattle.std.specs.Prelude.{◌≡◌, ℕ, ◌-◌, ◌^◌, min, List, [], ◌∷◌, length, map, Bool, true, false, Option, Some, None, is_some, option_and_then, option_map, Result, Ok, Err, position, slice_get, slice_set, nat_eq, codes, ◌&&◌, ◌||◌, if◌then◌else◌}
use Rattle.std.specs.List.{before_last, after_last, list_any}
use Rattle.std.specs.Str.{bytes_eq}
use Rattle.click_packet.specs.Packet.{Packet}
use Rattle.click_classes.specs.State.{class}
use Rattle.click_base.specs.declared.class.Class.{Class}
use Rattle.click_engine.specs.Plant.{Plant}
use Rattle.click_engine.specs.Rounds.{arrive, transmit, transmitted, source_of, sink_of, round}
use Rattle.click_engine.specs.declared.run_state.Element.{Element}
use Rattle.click_handlers.specs.Answers.{takes_room}
use Rattle.click_handlers.specs.Names.{has_read, has_write}
use Rattle.click_handlers.specs.Reads.{read_value}
use Rattle.click_handlers.specs.Writes.{write_value}
use Rattle.click_handlers.specs.declared.fault.HandlerFault.{HandlerFault}
use Rattle.click_ports.specs.Net.{names_of}
use Rattle.click_base.specs.Dotted.{is_dot}
use Rattle.click_router.specs.Globals.{global_value, is_global}
use Rattle.click_router.specs.Opened.{IsOpened}
use Rattle.click_router.specs.State.{RouterState}
use Rattle.click_router.specs.Swap.{Swaps}
use Rattle.click_router.specs.declared.call.Call.{Call}
use Rattle.click_router.specs.declared.call.Call.TheVariants as call
use Rattle.click_router.specs.declared.check.Check.{Check}
use Rattle.click_router.specs.declared.check.Check.TheVariants as answer
use Rattle.click_router.specs.declared.check.Access.{Access}
use Rattle.click_router.specs.declared.check.Access.TheVariants as direction
use Rattle.click_router.specs.declared.call.Refusal.{Refusal}
use Rattle.click_router.specs.declared.call.Refusal.TheVariants as refusal
use Rattle.click_router.specs.declared.call.Reply.{Reply}
use Rattle.click_router.specs.declared.call.Reply.TheVariants as reply

-- the index of the element with a flat name
abbrev pub place_of : RouterState → List ℕ → Option ℕ
place_of s name = position (bytes_eq name) (names_of s.flat.elements)

-- the element with a flat name, and its index
abbrev pub found : RouterState → List ℕ → Option (ℕ × Element)
found s name = option_and_then (λ at. option_map (λ (e : Element). (at, e)) (slice_get s.plant.elements at)) (place_of s name)

-- A name is split at its last dot into an element and a handler. A name without a dot is a global
-- handler.
abbrev pub before : List ℕ → List ℕ
before name = before_last is_dot name

abbrev pub after : List ℕ → List ℕ
after name = after_last is_dot name

-- the refusal for a handler that does not exist in one direction, by whether it exists in the
-- opposite one
abbrev pub refusal_of : Bool → Refusal
refusal_of other = if other then refusal.WrongWay else refusal.NoHandler

-- the reply to a read
abbrev pub read_reply : Result (List ℕ) HandlerFault → Reply
read_reply (Ok value) = reply.Value value
read_reply (Err f) = reply.Refused (refusal.Handler f)

-- a read of a handler of an element
abbrev pub read_element : Element → List ℕ → List ℕ → Reply
read_element e handler text =
    if has_read (class e.state) handler then read_reply (read_value handler e text)
    else reply.Refused (refusal_of (has_write (class e.state) handler))

abbrev pub read_found : Option (ℕ × Element) → List ℕ → List ℕ → Reply
read_found (Some found) handler text = read_element found.1 handler text
read_found None handler text = reply.Refused refusal.NoElement

-- the only global handler that can be written
abbrev pub is_hotconfig : List ℕ → Bool
is_hotconfig name = bytes_eq name (codes "hotconfig")

-- a read of a global handler
abbrev pub read_global : List ℕ → Option (List ℕ) → Reply
read_global name (Some value) = reply.Value value
read_global name None = reply.Refused (refusal_of (is_hotconfig name))

abbrev pub read : RouterState → List ℕ → List ℕ → Reply
read s name text = if list_any is_dot name then read_found (found s (before name)) (after name) text else read_global name (global_value s name)

-- the names of the elements and their classes, in flat order: all that a check uses
pub record Listing : Type 0 where
  pub names : List (List ℕ)
  pub classes : List Class

abbrev pub listing_of : RouterState → Listing
listing_of s = record { names = names_of s.flat.elements; classes = map (λ (e : Element). class e.state) s.plant.elements }

-- the class of the element with a name
abbrev pub class_named : Listing → List ℕ → Option Class
class_named l name = option_and_then (slice_get l.classes) (position (bytes_eq name) l.names)

abbrev pub other_way : Access → Access
other_way direction.Read = direction.Write
other_way direction.Write = direction.Read

-- whether elements of a class have a handler that can be read, or written
abbrev pub has_handler : Access → Class → List ℕ → Bool
has_handler direction.Read class handler = has_read class handler
has_handler direction.Write class handler = has_write class handler

-- the global handlers that can be read, and the one that can be written
abbrev pub has_own : Access → List ℕ → Bool
has_own direction.Read name = is_global name
has_own direction.Write name = is_hotconfig name

-- the answer of a check, by whether the handler exists in its direction, and in the opposite one
abbrev pub check_of : Bool → Bool → Check
check_of has has_other = if has then answer.Yes else if has_other then answer.WrongWay else answer.NoHandler

abbrev pub check_element : Option Class → Access → List ℕ → Check
check_element (Some class) way handler = check_of (has_handler way class handler) (has_handler (other_way way) class handler)
check_element None way handler = answer.NoElement

-- the answer of a check whether a handler can be read, or written
abbrev pub check : Listing → Access → List ℕ → Check
check l way name =
    if list_any is_dot name then check_element (class_named l (before name)) way (after name)
    else check_of (has_own way name) (has_own (other_way way) name)

-- the reply to CheckRead and CheckWrite
abbrev pub check_reply : Check → Reply
check_reply answer.Yes = reply.Done
check_reply answer.NoElement = reply.Refused refusal.NoElement
check_reply answer.NoHandler = reply.Refused refusal.NoHandler
check_reply answer.WrongWay = reply.Refused refusal.WrongWay

-- these are the names and classes of the elements of the router that the text opens
abbrev pub IsListing : List ℕ → Listing → Type 0
IsListing text l = (s : RouterState) × IsOpened text s × (l ≡ listing_of s)

-- the plant with another element at an index
abbrev pub with_element : Plant → ℕ → Element → Plant
with_element v at e = record v { elements = slice_set v.elements at e }

-- a write, by the element that the handler makes of the one at an index
abbrev pub written : Plant → ℕ → Result Element HandlerFault → Plant × Reply
written v at (Ok e) = (with_element v at e, reply.Done)
written v at (Err f) = (v, reply.Refused (refusal.Handler f))

-- a write of a handler of an element
abbrev pub write_element : Plant → ℕ → Element → List ℕ → List ℕ → Plant × Reply
write_element v at e handler text =
    if has_write (class e.state) handler then written v at (write_value handler e text)
    else (v, reply.Refused (refusal_of (has_read (class e.state) handler)))

abbrev pub write_found : Plant → Option (ℕ × Element) → List ℕ → List ℕ → Plant × Reply
write_found v (Some found) handler text = write_element v found.0 found.1 handler text
write_found v None handler text = (v, reply.Refused refusal.NoElement)

abbrev pub with_plant : RouterState → Plant × Reply → RouterState × Reply
with_plant s done = (record s { plant = done.0 }, done.1)

-- a write to a handler other than `hotconfig`
abbrev pub write : RouterState → List ℕ → List ℕ → RouterState × Reply
write s name text =
    if list_any is_dot name then with_plant s (write_found s.plant (found s (before name)) (after name) text)
    else (s, reply.Refused (refusal_of (is_some (global_value s name))))

-- packets of a device enter, one after another
abbrev pub arrivals : Plant → List ℕ → List Packet → Plant
arrivals v device [] = v
arrivals v device (p ∷ ps) = arrivals (arrive v device p) device ps

-- packets of a device enter, if it has a source, and the reply
abbrev pub entered : RouterState → List ℕ → List Packet → RouterState × Reply
entered s device ps = elim (source_of s.plant device) [
  | None ↦ (s, reply.NoDevice)
  | Some at ↦ (record s { plant = arrivals s.plant device ps }, reply.Entered (length ps))
]

-- each task runs once; the number in the reply is at most 2^64 - 1
abbrev pub worked : RouterState → RouterState × Reply
worked s = (record s { plant = (round s.plant).plant }, reply.Worked (min (round s.plant).packets (2 ^ 64 - 1)))

-- a device takes a packet, if it has a sink
abbrev pub sent : RouterState → List ℕ → RouterState × Reply
sent s device = elim (sink_of s.plant device) [
  | None ↦ (s, reply.NoDevice)
  | Some at ↦ (record s { plant = transmit s.plant device }, reply.Sent (transmitted s.plant device))
]

-- A call, with the state before it, the state after it and the reply. A write to `hotconfig` is a
-- swap.
abbrev pub Answers : RouterState → Call → RouterState → Reply → Type 0
Answers s (call.Read name text) t r = (t ≡ s) × (r ≡ read s name text)
Answers s (call.Write name text) t r = elim (is_hotconfig name) [ true ↦ Swaps s text t r | false ↦ write s name text ≡ (t, r) ]
Answers s (call.CheckRead name) t r = (t ≡ s) × (r ≡ check_reply (check (listing_of s) direction.Read name))
Answers s (call.CheckWrite name) t r = (t ≡ s) × (r ≡ check_reply (check (listing_of s) direction.Write name))
Answers s (call.Swap text) t r = Swaps s text t r
Answers s (call.Arrive device p) t r = entered s device (p ∷ []) ≡ (t, r)
Answers s (call.Poll device ps) t r = entered s device ps ≡ (t, r)
Answers s call.Round t r = worked s ≡ (t, r)
Answers s (call.Transmit device) t r = sent s device ≡ (t, r)

-- the text of a swap, or of a write to `hotconfig`
abbrev pub swap_text : Call → Option (List ℕ)
swap_text (call.Read name text) = None
swap_text (call.Write name text) = if is_hotconfig name then Some text else None
swap_text (call.CheckRead name) = None
swap_text (call.CheckWrite name) = None
swap_text (call.Swap text) = Some text
swap_text (call.Arrive device p) = None
swap_text (call.Poll device ps) = None
swap_text call.Round = None
swap_text (call.Transmit device) = None

-- the only call that sends a packet, and the replies that hold one
abbrev pub is_transmit : Call → Bool
is_transmit (call.Read name text) = false
is_transmit (call.Write name text) = false
is_transmit (call.CheckRead name) = false
is_transmit (call.CheckWrite name) = false
is_transmit (call.Swap text) = false
is_transmit (call.Arrive device p) = false
is_transmit (call.Poll device ps) = false
is_transmit call.Round = false
is_transmit (call.Transmit device) = true

abbrev pub sends_packet : Reply → Bool
sends_packet (reply.Value value) = false
sends_packet reply.Done = false
sends_packet (reply.Refused why) = false
sends_packet (reply.Entered count) = false
sends_packet (reply.Worked count) = false
sends_packet (reply.Sent packet) = is_some packet
sends_packet reply.NoDevice = false

-- whether a write to this name sets the capacity of a queue
abbrev pub writes_room : List ℕ → Bool
writes_room name = list_any is_dot name && takes_room (after name)

-- the calls that may allocate: a read for its value, a write for a queue with another capacity, and
-- a swap
abbrev pub takes_memory : Call → Bool
takes_memory (call.Read name text) = true
takes_memory (call.Write name text) = is_hotconfig name || writes_room name
takes_memory (call.CheckRead name) = false
takes_memory (call.CheckWrite name) = false
takes_memory (call.Swap text) = true
takes_memory (call.Arrive device p) = false
takes_memory (call.Poll device ps) = false
takes_memory call.Round = false
takes_memory (call.Transmit device) = false

-- the replies that hold memory: a value, and the fault of a configuration with an element's name
abbrev pub refusal_holds : Refusal → Bool
refusal_holds refusal.NoElement = false
refusal_holds refusal.NoHandler = false
refusal_holds refusal.WrongWay = false
refusal_holds (refusal.Handler f) = false
refusal_holds (refusal.Config f) = true

abbrev pub holds_memory : Reply → Bool
holds_memory (reply.Value value) = true
holds_memory reply.Done = false
holds_memory (reply.Refused why) = refusal_holds why
holds_memory (reply.Entered count) = false
holds_memory (reply.Worked count) = false
holds_memory (reply.Sent packet) = false
holds_memory reply.NoDevice = false
