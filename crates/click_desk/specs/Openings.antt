-- The faults for which a desk is not opened.
use Rattle.std.specs.Prelude.{◌≡◌, ◌<◌, ◌≤◌, ◌⊎◌, ℕ, true, false, List, [], length}
use Rattle.click_rings.specs.Feeds.{FeedName, have_distinct_devices}
use Rattle.click_router.specs.Opened.{IsFirstFault}
use Rattle.click_desk.specs.History.{IsLegal}
use Rattle.click_router.specs.declared.fault.FaultKind.TheVariants as kind
use Rattle.click_desk.specs.declared.open.OpenFault.{OpenFault}
use Rattle.click_desk.specs.declared.open.OpenFault.TheVariants as fault

-- A desk can have this many seats and these inlets.
abbrev pub AreFit : ℕ → List FeedName → Type 0
AreFit seats inlets = (0 < seats) × (seats ≤ 256) × (have_distinct_devices inlets ≡ true) × (length inlets ≤ 16)

-- The first fault of an opening without views, in this order: the number of seats, two inlets of
-- one device, the number of inlets, the configuration. If the seats and the inlets are allowed, it
-- may also be out of memory.
abbrev pub IsOpenFault : ℕ → List FeedName → List ℕ → OpenFault → Type 0
IsOpenFault seats inlets text fault.SeatCount = (seats ≡ 0) ⊎ (256 < seats)
IsOpenFault seats inlets text fault.DeviceTwice = (0 < seats) × (seats ≤ 256) × (have_distinct_devices inlets ≡ false)
IsOpenFault seats inlets text fault.InletCount = (0 < seats) × (seats ≤ 256) × (have_distinct_devices inlets ≡ true) × (16 < length inlets)
IsOpenFault seats inlets text (fault.Config why) = AreFit seats inlets × IsFirstFault text why × (why.kind ≡ kind.NoMemory → ⊥)
IsOpenFault seats inlets text fault.NoMemory = AreFit seats inlets
IsOpenFault seats inlets text fault.ViewCount = ⊥
IsOpenFault seats inlets text fault.NoView = ⊥

-- The first fault of an opening with views. Their number is tested after that of the inlets. If all
-- else is right, the last fault is that a view was given no handle that reads the install signal.
abbrev pub IsViewFault : ℕ → List FeedName → ℕ → List ℕ → OpenFault → Type 0
IsViewFault seats inlets views text fault.SeatCount = IsOpenFault seats inlets text fault.SeatCount
IsViewFault seats inlets views text fault.DeviceTwice = IsOpenFault seats inlets text fault.DeviceTwice
IsViewFault seats inlets views text fault.InletCount = IsOpenFault seats inlets text fault.InletCount
IsViewFault seats inlets views text fault.ViewCount = AreFit seats inlets × (16 < views)
IsViewFault seats inlets views text (fault.Config why) = (views ≤ 16) × IsOpenFault seats inlets text (fault.Config why)
IsViewFault seats inlets views text fault.NoMemory = (views ≤ 16) × IsOpenFault seats inlets text fault.NoMemory
IsViewFault seats inlets views text fault.NoView = AreFit seats inlets × (views ≤ 16) × IsLegal text [] × (0 < views)

-- The fault of creating a view: out of memory, or no handle that reads the install signal.
abbrev pub IsViewless : OpenFault → Type 0
IsViewless fault.SeatCount = ⊥
IsViewless fault.DeviceTwice = ⊥
IsViewless fault.InletCount = ⊥
IsViewless fault.ViewCount = ⊥
IsViewless (fault.Config why) = ⊥
IsViewless fault.NoMemory = Unit {0}
IsViewless fault.NoView = Unit {0}
