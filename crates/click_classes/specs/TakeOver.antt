-- What an element of a new configuration takes over from the element of the same name in the old
-- one (Click manual, "hot swapping").
use Rattle.std.specs.Prelude.{ℕ, ◌-◌, length, take, nat_lt, Option, Some, None, if◌then◌else◌}
use Rattle.click_classes.specs.PacketList.{PacketList}
use Rattle.click_classes.specs.declared.state.State.{State}
use Rattle.click_classes.specs.declared.state.State.TheVariants as state

-- the first packets of the old list, as many as there is room for
abbrev pub filled : PacketList → PacketList → PacketList
filled q old = record q { packets = take q.capacity old.packets }

-- the number of packets of the old list for which there is no room
abbrev pub left_over : PacketList → PacketList → ℕ
left_over q old = length old.packets - q.capacity

-- The position of a Switch after a hot swap: the old one if it is -1 or one of the outputs, or else
-- its own.
abbrev pub kept_position : ℕ → Option ℕ → Option ℕ → Option ℕ
kept_position outputs own None = None
kept_position outputs own (Some k) = if nat_lt k outputs then Some k else own

-- What an element with that number of outputs takes over from an old one of its class. A queue
-- takes the packets. Those without room count as drops, and the number that it took is its
-- high-water mark. A Counter takes both counts, and a Switch the position. An ARPQuerier takes the
-- table with the packets that wait, and both counts. All other elements keep their first state.
abbrev pub taken_over : ℕ → State → State → State
taken_over outputs (state.Queue q d h) (state.Queue old e i) = state.Queue (filled q old) (left_over q old) (length (filled q old).packets)
taken_over outputs (state.FrontDropQueue q d h) (state.FrontDropQueue old e i) = state.FrontDropQueue (filled q old) (left_over q old) (length (filled q old).packets)
taken_over outputs (state.Counter n b) (state.Counter old_count old_bytes) = state.Counter old_count old_bytes
taken_over outputs (state.Switch own) (state.Switch k) = state.Switch (kept_position outputs own k)
taken_over outputs (state.ARPQuerier q) (state.ARPQuerier old) = state.ARPQuerier (record q { table = old.table; packets = old.packets; drops = old.drops })
taken_over outputs s old = s
