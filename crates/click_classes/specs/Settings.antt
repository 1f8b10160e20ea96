-- The settings of an element: the part of its state that arguments and handlers set, and packets do
-- not change.
use Rattle.std.specs.Prelude.{[]}
use Rattle.click_classes.specs.PacketList.{PacketList}
use Rattle.click_classes.specs.declared.state.State.{State}
use Rattle.click_classes.specs.declared.state.State.TheVariants as state

-- a list without its packets
abbrev pub emptied : PacketList → PacketList
emptied q = record q { packets = [] }

abbrev pub settings : State → State
settings (state.Queue q drops highest) = state.Queue (emptied q) 0 0
settings (state.FrontDropQueue q drops highest) = state.FrontDropQueue (emptied q) 0 0
settings (state.Counter count byte_count) = state.Counter 0 0
settings (state.RoundRobinSwitch next) = state.RoundRobinSwitch 0
settings (state.RoundRobinSched next) = state.RoundRobinSched 0
settings (state.InfiniteSource bytes limit burst active count) = state.InfiniteSource bytes limit burst active 0
settings (state.ARPQuerier q) = state.ARPQuerier (record q { table = []; packets = 0; drops = 0 })
settings s = s
