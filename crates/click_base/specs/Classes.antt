-- The element classes, their order and their names (Click element reference).
use Rattle.std.specs.Prelude.{ℕ, List, [], ◌∷◌, codes, find, Option, Bool, true, false}
use Rattle.std.specs.Str.{bytes_eq}
use Rattle.click_base.specs.declared.class.Class.{Class}
use Rattle.click_base.specs.declared.class.Class.TheVariants as class

-- the classes in the order of Click's element reference
abbrev pub classes : List Class
classes =
    class.Queue ∷ class.FrontDropQueue ∷ class.Unqueue ∷ class.Counter ∷ class.Switch ∷ class.PullSwitch ∷ class.RoundRobinSwitch ∷
    class.RoundRobinSched ∷ class.PrioSched ∷ class.Tee ∷ class.PullTee ∷ class.Idle ∷ class.Discard ∷ class.Null ∷ class.PushNull ∷
    class.PullNull ∷ class.Suppressor ∷ class.Paint ∷ class.PaintTee ∷ class.Strip ∷ class.CheckLength ∷ class.Classifier ∷
    class.GetIPAddress ∷ class.StaticIPLookup ∷ class.CheckIPHeader ∷ class.DecIPTTL ∷ class.EtherEncap ∷ class.InfiniteSource ∷
    class.FromDevice ∷ class.ToDevice ∷ []

-- the twelve classes of the gateway package, which are visible only after `require(gateway);`
abbrev pub gateway_classes : List Class
gateway_classes =
    class.ARPResponder ∷ class.ARPQuerier ∷ class.ICMPError ∷ class.ICMPPingResponder ∷ class.HostEtherFilter ∷ class.EtherMirror ∷
    class.IPMirror ∷ class.SetIPChecksum ∷ class.StripIPHeader ∷ class.UDPIPEncap ∷ class.IPFilter ∷ class.IPClassifier ∷ []

-- whether a class is of the gateway package
abbrev pub is_gateway : Class → Bool
is_gateway class.ARPResponder = true
is_gateway class.ARPQuerier = true
is_gateway class.ICMPError = true
is_gateway class.ICMPPingResponder = true
is_gateway class.HostEtherFilter = true
is_gateway class.EtherMirror = true
is_gateway class.IPMirror = true
is_gateway class.SetIPChecksum = true
is_gateway class.StripIPHeader = true
is_gateway class.UDPIPEncap = true
is_gateway class.IPFilter = true
is_gateway class.IPClassifier = true
is_gateway _ = false

-- the name that stands for the class in configurations
abbrev pub name : Class → List ℕ
name class.Queue = codes "Queue"
name class.FrontDropQueue = codes "FrontDropQueue"
name class.Unqueue = codes "Unqueue"
name class.Counter = codes "Counter"
name class.Switch = codes "Switch"
name class.PullSwitch = codes "PullSwitch"
name class.RoundRobinSwitch = codes "RoundRobinSwitch"
name class.RoundRobinSched = codes "RoundRobinSched"
name class.PrioSched = codes "PrioSched"
name class.Tee = codes "Tee"
name class.PullTee = codes "PullTee"
name class.Idle = codes "Idle"
name class.Discard = codes "Discard"
name class.Null = codes "Null"
name class.PushNull = codes "PushNull"
name class.PullNull = codes "PullNull"
name class.Suppressor = codes "Suppressor"
name class.Paint = codes "Paint"
name class.PaintTee = codes "PaintTee"
name class.Strip = codes "Strip"
name class.CheckLength = codes "CheckLength"
name class.Classifier = codes "Classifier"
name class.GetIPAddress = codes "GetIPAddress"
name class.StaticIPLookup = codes "StaticIPLookup"
name class.CheckIPHeader = codes "CheckIPHeader"
name class.DecIPTTL = codes "DecIPTTL"
name class.EtherEncap = codes "EtherEncap"
name class.InfiniteSource = codes "InfiniteSource"
name class.FromDevice = codes "FromDevice"
name class.ToDevice = codes "ToDevice"
name class.ARPResponder = codes "ARPResponder"
name class.ARPQuerier = codes "ARPQuerier"
name class.ICMPError = codes "ICMPError"
name class.ICMPPingResponder = codes "ICMPPingResponder"
name class.HostEtherFilter = codes "HostEtherFilter"
name class.EtherMirror = codes "EtherMirror"
name class.IPMirror = codes "IPMirror"
name class.SetIPChecksum = codes "SetIPChecksum"
name class.StripIPHeader = codes "StripIPHeader"
name class.UDPIPEncap = codes "UDPIPEncap"
name class.IPFilter = codes "IPFilter"
name class.IPClassifier = codes "IPClassifier"

-- the class with this name, if it is one of the thirty that are always visible
unfoldable pub class_of : List ℕ → Option Class
class_of text = find (λ c. bytes_eq (name c) text) classes

-- the class of the gateway package with this name, if there is one
unfoldable pub gateway_class_of : List ℕ → Option Class
gateway_class_of text = find (λ c. bytes_eq (name c) text) gateway_classes
