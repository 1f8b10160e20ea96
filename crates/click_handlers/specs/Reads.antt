-- The value of a handler that is read: bytes, or a fault (Click element reference, the handlers of
-- each class).
use Rattle.std.specs.Prelude.{ℕ, ◌+◌, ◌/◌, ◌%◌, List, [], ◌∷◌, ◌++◌, length, flat_map, Bool, false, nat_lt, slice_index, slice_index_or, Option, Some, None, Result, Ok, Err, codes, decimal, if◌then◌else◌}
use Rattle.std.specs.Str.{bytes_eq}
use Rattle.click_classes.specs.Neighbours.{Neighbour}
use Rattle.click_classes.specs.Queues.{Queued}
use Rattle.click_classes.specs.Routes.{route}
use Rattle.click_classes.specs.Values.{address}
use Rattle.click_classes.specs.declared.neighbours.Querier.{Querier}
use Rattle.click_classes.specs.declared.state.State.{State}
use Rattle.click_classes.specs.declared.state.State.TheVariants as state
use Rattle.click_classes.specs.declared.values.entry.Entry.{Entry}
use Rattle.click_classes.specs.declared.fault.ArgFault.{ArgFault}
use Rattle.click_engine.specs.declared.run_state.Element.{Element}
use Rattle.click_base.specs.Blanks.{trimmed}
use Rattle.click_handlers.specs.Names.{active_port}
use Rattle.click_handlers.specs.declared.fault.HandlerFault.{HandlerFault}
use Rattle.click_handlers.specs.declared.fault.HandlerFault.TheVariants as fault

abbrev pub truth_text : Bool → List ℕ
truth_text b = if b then codes "true" else codes "false"

-- the port that a switch uses, -1 for none
abbrev pub port_text : Option ℕ → List ℕ
port_text None = codes "-1"
port_text (Some port) = decimal port

-- an address as four numbers with dots between them
abbrev pub dotted : List ℕ → List ℕ
dotted address =
    decimal (slice_index address 0) ++ codes "." ++ decimal (slice_index address 1) ++ codes "." ++ decimal (slice_index address 2) ++ codes "."
    ++ decimal (slice_index address 3)

-- the gateway of an entry, after a space
abbrev pub gateway_text : Option (List ℕ) → List ℕ
gateway_text None = []
gateway_text (Some gateway) = codes " " ++ dotted gateway

-- the output of the entry for an address, and its gateway; -1 for none
abbrev pub route_text : Option Entry → List ℕ
route_text None = codes "-1"
route_text (Some entry) = decimal entry.output ++ gateway_text entry.gateway

-- a number below 16 as a hexadecimal digit, and a byte as two of them, in lower case
abbrev pub hex_char : ℕ → ℕ
hex_char n = if nat_lt n 10 then 48 + n else 87 + n

abbrev pub hex_pair : ℕ → List ℕ
hex_pair b = hex_char (b / 16) ∷ hex_char (b % 16) ∷ []

-- a colon and two hexadecimal digits
abbrev pub colon_pair : ℕ → List ℕ
colon_pair b = codes ":" ++ hex_pair b

-- an Ethernet address as six pairs of hexadecimal digits with colons between them
abbrev pub ether_text : List ℕ → List ℕ
ether_text ether =
    hex_pair (slice_index ether 0) ++ colon_pair (slice_index ether 1) ++ colon_pair (slice_index ether 2) ++ colon_pair (slice_index ether 3)
    ++ colon_pair (slice_index ether 4) ++ colon_pair (slice_index ether 5)

-- the Ethernet address of a neighbour, - if it is not known
abbrev pub known_text : Option (List ℕ) → List ℕ
known_text None = codes "-"
known_text (Some ether) = ether_text ether

-- the line of a neighbour, by its address and its Ethernet address
abbrev pub neighbour_line : List ℕ → Option (List ℕ) → List ℕ
neighbour_line address ether = dotted address ++ codes " " ++ known_text ether ++ codes "\n"

-- a line for each neighbour, in the order of the table
abbrev pub neighbour_lines : List Neighbour → List ℕ
neighbour_lines ns = flat_map (λ (n : Neighbour). neighbour_line n.address n.ether) ns

abbrev pub lookup_of : List Entry → Result (List ℕ) ArgFault → Result (List ℕ) HandlerFault
lookup_of entries (Ok address) = Ok (route_text (route entries address))
lookup_of entries (Err f) = Err fault.BadAddress

abbrev pub read_queue : Queued → List ℕ → List ℕ
read_queue q handler =
    if bytes_eq handler (codes "length") then decimal (length q.list.packets)
    else if bytes_eq handler (codes "highwater_length") then decimal q.highest
    else if bytes_eq handler (codes "drops") then decimal q.drops
    else decimal q.list.capacity

abbrev pub read_querier : Querier → List ℕ → List ℕ
read_querier q handler =
    if bytes_eq handler (codes "table") then neighbour_lines q.table
    else if bytes_eq handler (codes "count") then decimal (length q.table)
    else decimal q.drops

-- whether a port of a Suppressor with this number of inputs is active
abbrev pub read_active : ℕ → List Bool → ℕ → Result (List ℕ) HandlerFault
read_active inputs active port = if nat_lt port inputs then Ok (truth_text (slice_index_or active port false)) else Err fault.OutOfRange

-- the value of a handler of an element with this number of inputs and this state
abbrev pub read_state : ℕ → State → List ℕ → List ℕ → Result (List ℕ) HandlerFault
read_state inputs (state.Queue list drops highest) handler text = Ok (read_queue (record { list = list; drops = drops; highest = highest }) handler)
read_state inputs (state.FrontDropQueue list drops highest) handler text = Ok (read_queue (record { list = list; drops = drops; highest = highest }) handler)
read_state inputs (state.Counter count byte_count) handler text = Ok (if bytes_eq handler (codes "count") then decimal count else decimal byte_count)
read_state inputs (state.Switch output) handler text = Ok (port_text output)
read_state inputs (state.PullSwitch input) handler text = Ok (port_text input)
read_state inputs (state.Suppressor active) handler text = read_active inputs active (active_port handler)
read_state inputs (state.InfiniteSource bytes limit burst active count) handler text = Ok (if bytes_eq handler (codes "active") then truth_text active else decimal count)
read_state inputs (state.StaticIPLookup entries) handler text = lookup_of entries (address (trimmed text))
read_state inputs (state.ARPQuerier q) handler text = Ok (read_querier q handler)
read_state inputs _ handler text = Ok []

-- The value of a handler of an element, which is read with a text. The class has the handler
-- (`has_read`).
abbrev pub read_value : List ℕ → Element → List ℕ → Result (List ℕ) HandlerFault
read_value handler element text = read_state element.inputs element.state handler text
