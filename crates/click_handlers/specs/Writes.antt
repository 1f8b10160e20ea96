-- An element after a write of a handler (Click element reference, the handlers of each class).
use Rattle.std.specs.Prelude.{ℕ, ◌+◌, ◌-◌, ◌^◌, min, List, [], length, take, drop, Bool, nat_lt, slice_set, Option, Some, None, Result, Ok, Err, codes, if◌then◌else◌}
use Rattle.std.specs.List.{before_first, position_or_len}
use Rattle.std.specs.Str.{bytes_eq}
use Rattle.click_classes.specs.NeighbourWrites.{inserted, without, cleared, recent}
use Rattle.click_classes.specs.Queues.{Queued}
use Rattle.click_classes.specs.Values.{truth, address, ethernet}
use Rattle.click_classes.specs.declared.neighbours.Querier.{Querier}
use Rattle.click_classes.specs.declared.state.State.{State}
use Rattle.click_classes.specs.declared.state.State.TheVariants as state
use Rattle.click_classes.specs.declared.fault.ArgFault.{ArgFault}
use Rattle.click_engine.specs.declared.run_state.Element.{Element}
use Rattle.click_base.specs.Blanks.{is_blank, without_front, trimmed}
use Rattle.click_base.specs.Numbers.{decimal_number}
use Rattle.click_base.specs.declared.numbers.NumberFault.{NumberFault}
use Rattle.click_base.specs.declared.numbers.NumberFault.TheVariants as number
use Rattle.click_handlers.specs.Names.{active_port}
use Rattle.click_handlers.specs.declared.fault.HandlerFault.{HandlerFault}
use Rattle.click_handlers.specs.declared.fault.HandlerFault.TheVariants as fault

-- a number from low to high, in decimal digits only
abbrev pub as_number : Result ℕ NumberFault → Result ℕ HandlerFault
as_number (Ok n) = Ok n
as_number (Err number.BadNumber) = Err fault.BadNumber
as_number (Err number.OutOfRange) = Err fault.OutOfRange

abbrev pub number_from : ℕ → ℕ → List ℕ → Result ℕ HandlerFault
number_from low high text = as_number (decimal_number low high text)

-- -1, or a port below the number of ports; no switch has more than 256
abbrev pub port_below : ℕ → Result ℕ HandlerFault → Result (Option ℕ) HandlerFault
port_below ports (Ok n) = if nat_lt n ports then Ok (Some n) else Err fault.OutOfRange
port_below ports (Err f) = Err f

abbrev pub written_port : ℕ → List ℕ → Result (Option ℕ) HandlerFault
written_port ports text = if bytes_eq text (codes "-1") then Ok None else port_below ports (number_from 0 255 text)

-- a truth value
abbrev pub flag_of : Result Bool ArgFault → Result Bool HandlerFault
flag_of (Ok b) = Ok b
flag_of (Err f) = Err fault.BadFlag

abbrev pub written_flag : List ℕ → Result Bool HandlerFault
written_flag text = flag_of (truth text)

-- the first word of a text that does not begin with a blank, and the words after it
abbrev pub first_word : List ℕ → List ℕ
first_word text = before_first is_blank text

abbrev pub after_word : List ℕ → List ℕ
after_word text = without_front (drop (position_or_len is_blank text) text)

-- an address
abbrev pub address_of : Result (List ℕ) ArgFault → Result (List ℕ) HandlerFault
address_of (Ok bytes) = Ok bytes
address_of (Err f) = Err fault.BadAddress

abbrev pub written_address : List ℕ → Result (List ℕ) HandlerFault
written_address text = address_of (address text)

-- an address and its Ethernet address
abbrev pub both_of : Result (List ℕ) ArgFault → Result (List ℕ) ArgFault → Result (List ℕ × List ℕ) HandlerFault
both_of (Ok bytes) (Ok ether) = Ok (bytes, ether)
both_of (Ok bytes) (Err f) = Err fault.BadAddress
both_of (Err f) ether = Err fault.BadAddress

-- exactly two words; an Ethernet address has no blanks
abbrev pub written_neighbour : List ℕ → Result (List ℕ × List ℕ) HandlerFault
written_neighbour text = both_of (address (first_word text)) (ethernet (after_word text))

-- a queue with another capacity: the first packets stay, and the others are counted as drops
abbrev pub resized : Queued → ℕ → Queued
resized q capacity = record {
  list = record { packets = take capacity q.list.packets; capacity = capacity };
  drops = min (q.drops + (length q.list.packets - capacity)) (2 ^ 64 - 1);
  highest = q.highest;
}

abbrev pub with_capacity : Queued → Result ℕ HandlerFault → Result Queued HandlerFault
with_capacity q (Ok n) = Ok (resized q n)
with_capacity q (Err f) = Err f

-- a queue without drops, whose highest length is its length
abbrev pub without_counts : Queued → Queued
without_counts q = record { list = q.list; drops = 0; highest = length q.list.packets }

-- a queue without packets
abbrev pub emptied : Queued → Queued
emptied q = record q { list = record q.list { packets = [] } }

abbrev pub write_queue : Queued → List ℕ → List ℕ → Result Queued HandlerFault
write_queue q handler text =
    if bytes_eq handler (codes "capacity") then with_capacity q (number_from 1 10000 text)
    else if bytes_eq handler (codes "reset_counts") then Ok (without_counts q)
    else Ok (emptied q)

-- the querier, or the refusal of addresses that it did not insert
abbrev pub or_out_of_range : Option Querier → Result Querier HandlerFault
or_out_of_range (Some q) = Ok q
or_out_of_range None = Err fault.OutOfRange

-- a querier after a write of `insert`, `delete` and `expire`
abbrev pub with_neighbour : Querier → Result (List ℕ × List ℕ) HandlerFault → Result Querier HandlerFault
with_neighbour q (Ok both) = or_out_of_range (inserted both.0 both.1 q)
with_neighbour q (Err f) = Err f

abbrev pub without_neighbour : Querier → Result (List ℕ) HandlerFault → Result Querier HandlerFault
without_neighbour q (Ok address) = Ok (without address q)
without_neighbour q (Err f) = Err f

abbrev pub with_recent : Querier → Result ℕ HandlerFault → Result Querier HandlerFault
with_recent q (Ok packets) = Ok (recent packets q)
with_recent q (Err f) = Err f

abbrev pub write_querier : Querier → List ℕ → List ℕ → Result Querier HandlerFault
write_querier q handler text =
    if bytes_eq handler (codes "insert") then with_neighbour q (written_neighbour text)
    else if bytes_eq handler (codes "delete") then without_neighbour q (written_address text)
    else if bytes_eq handler (codes "clear") then Ok (cleared q)
    else if bytes_eq handler (codes "reset_counts") then Ok (record q { drops = 0 })
    else with_recent q (number_from 0 (2 ^ 64 - 1) text)

abbrev pub as_state : {X : Type 0} → (X → State) → Result X HandlerFault → Result State HandlerFault
as_state f (Ok x) = Ok (f x)
as_state f (Err e) = Err e

-- A Suppressor with this number of inputs. The port must exist, and then the text must be a truth
-- value.
abbrev pub write_active : ℕ → List Bool → ℕ → List ℕ → Result State HandlerFault
write_active inputs active port text =
    if nat_lt port inputs then as_state (λ b. state.Suppressor (slice_set active port b)) (written_flag text) else Err fault.OutOfRange

-- the state after a write of the text, whose blanks at the ends were removed, at an element with
-- these numbers of ports
abbrev pub write_state : ℕ → ℕ → State → List ℕ → List ℕ → Result State HandlerFault
write_state inputs outputs (state.Queue list drops highest) handler text =
    as_state (λ (q : Queued). state.Queue q.list q.drops q.highest) (write_queue (record { list = list; drops = drops; highest = highest }) handler text)
write_state inputs outputs (state.FrontDropQueue list drops highest) handler text =
    as_state (λ (q : Queued). state.FrontDropQueue q.list q.drops q.highest) (write_queue (record { list = list; drops = drops; highest = highest }) handler text)
write_state inputs outputs (state.Counter count byte_count) handler text = Ok (state.Counter 0 0)
write_state inputs outputs (state.Switch output) handler text = as_state state.Switch (written_port outputs text)
write_state inputs outputs (state.PullSwitch input) handler text = as_state state.PullSwitch (written_port inputs text)
write_state inputs outputs (state.Suppressor active) handler text = write_active inputs active (active_port handler) text
write_state inputs outputs (state.InfiniteSource bytes limit burst active count) handler text =
    if bytes_eq handler (codes "active") then as_state (λ b. state.InfiniteSource bytes limit burst b count) (written_flag text)
    else Ok (state.InfiniteSource bytes limit burst active 0)
write_state inputs outputs (state.ARPQuerier q) handler text = as_state state.ARPQuerier (write_querier q handler text)
write_state inputs outputs s handler text = Ok s

abbrev pub with_state : Element → Result State HandlerFault → Result Element HandlerFault
with_state element (Ok s) = Ok (record element { state = s })
with_state element (Err f) = Err f

-- The element after a write of one of its handlers with a text, or the fault that leaves it
-- unchanged. The class has the handler (`has_write`).
abbrev pub write_value : List ℕ → Element → List ℕ → Result Element HandlerFault
write_value handler element text = with_state element (write_state element.inputs element.outputs element.state handler (trimmed text))
