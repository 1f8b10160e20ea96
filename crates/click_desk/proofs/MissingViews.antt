-- The first fault of an opening with no views is that of an opening without views.
use Rattle.std.proofs.Common.{ℕ, ◌<◌, List, arith}
use Rattle.click_rings.specs.Feeds.{FeedName}
use Rattle.click_desk.specs.declared.open.OpenFault.{OpenFault}
use Rattle.click_desk.specs.declared.open.OpenFault.TheVariants as fault
use Rattle.click_desk.specs.Openings.{IsOpenFault, IsViewFault}

pub viewless : (seats : ℕ) (inlets : List FeedName) (text : List ℕ) (f : OpenFault) → IsViewFault seats inlets 0 text f → IsOpenFault seats inlets text f
viewless seats inlets text fault.SeatCount why = why
viewless seats inlets text fault.DeviceTwice why = why
viewless seats inlets text fault.InletCount why = why
viewless seats inlets text fault.ViewCount why = let many : 16 < 0 = why.1 in absurd (omega arith)
viewless seats inlets text (fault.Config f) why = why.1
viewless seats inlets text fault.NoMemory why = why.1
viewless seats inlets text fault.NoView why = let some : 0 < 0 = why.3 in absurd (omega arith)
