-- The class of an element's state.
use Rattle.click_base.specs.declared.class.Class.{Class}
use Rattle.click_base.specs.declared.class.Class.TheVariants as is
use Rattle.click_classes.specs.declared.state.State.{State}
use Rattle.click_classes.specs.declared.state.State.TheVariants as state

abbrev pub class : State → Class
class (state.Queue q d h) = is.Queue
class (state.FrontDropQueue q d h) = is.FrontDropQueue
class state.Unqueue = is.Unqueue
class (state.Counter n b) = is.Counter
class (state.Switch k) = is.Switch
class (state.PullSwitch k) = is.PullSwitch
class (state.RoundRobinSwitch n) = is.RoundRobinSwitch
class (state.RoundRobinSched n) = is.RoundRobinSched
class state.PrioSched = is.PrioSched
class (state.Tee n) = is.Tee
class (state.PullTee n) = is.PullTee
class state.Idle = is.Idle
class state.Discard = is.Discard
class state.Null = is.Null
class state.PushNull = is.PushNull
class state.PullNull = is.PullNull
class (state.Suppressor a) = is.Suppressor
class (state.Paint c) = is.Paint
class (state.PaintTee c) = is.PaintTee
class (state.Strip n) = is.Strip
class (state.CheckLength n) = is.CheckLength
class (state.Classifier ps) = is.Classifier
class (state.GetIPAddress n) = is.GetIPAddress
class (state.StaticIPLookup es) = is.StaticIPLookup
class (state.CheckIPHeader rs) = is.CheckIPHeader
class state.DecIPTTL = is.DecIPTTL
class (state.EtherEncap header) = is.EtherEncap
class (state.InfiniteSource b l u a n) = is.InfiniteSource
class (state.FromDevice d) = is.FromDevice
class (state.ToDevice d) = is.ToDevice
class (state.ARPResponder stations) = is.ARPResponder
class (state.ARPQuerier q) = is.ARPQuerier
class (state.ICMPError r) = is.ICMPError
class state.ICMPPingResponder = is.ICMPPingResponder
class (state.HostEtherFilter ether) = is.HostEtherFilter
class state.EtherMirror = is.EtherMirror
class state.IPMirror = is.IPMirror
class state.SetIPChecksum = is.SetIPChecksum
class state.StripIPHeader = is.StripIPHeader
class (state.UDPIPEncap t) = is.UDPIPEncap
class (state.IPFilter rules) = is.IPFilter
class (state.IPClassifier rules) = is.IPClassifier
