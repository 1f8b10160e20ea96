-- The ports of the classes: push, pull or agnostic, and how many there may be (Click element
-- reference).
use Rattle.std.specs.Prelude.{ℕ, ◌==◌, Bool, true, false, if◌then◌else◌, ◌+◌, List, [], ◌∷◌, length, Option, Some, None, min, max}
use Rattle.click_base.specs.declared.class.Class.{Class}
use Rattle.click_base.specs.declared.class.Class.TheVariants as class
use Rattle.click_classes.specs.declared.ports.Code.{Code}
use Rattle.click_classes.specs.declared.ports.Code.TheVariants.{Push, Pull, Agnostic}
use Rattle.click_classes.specs.declared.ports.Side.{Side}
use Rattle.click_classes.specs.declared.ports.Side.TheVariants as side
use Rattle.click_classes.specs.declared.ports.Codes.{Codes}
use Rattle.click_classes.specs.declared.ports.Counts.{Counts}
use Rattle.click_classes.specs.declared.values.entry.Entry.{Entry}
use Rattle.click_classes.specs.declared.state.State.{State}
use Rattle.click_patterns.specs.RuleLists.{outputs_of}
use Rattle.click_classes.specs.declared.state.State.TheVariants as state

-- the codes of the inputs, of output 0, and of the further outputs
abbrev pub row : Code → Code → Code → Codes
row i o f = record { inputs = i; output = o; further = f }

-- the codes of each class; a side without ports is agnostic
abbrev pub codes_of : Class → Codes
codes_of class.Queue = row Push Pull Pull
codes_of class.FrontDropQueue = row Push Pull Pull
codes_of class.Unqueue = row Pull Push Push
codes_of class.Counter = row Agnostic Agnostic Agnostic
codes_of class.Switch = row Push Push Push
codes_of class.PullSwitch = row Pull Pull Pull
codes_of class.RoundRobinSwitch = row Push Push Push
codes_of class.RoundRobinSched = row Pull Pull Pull
codes_of class.PrioSched = row Pull Pull Pull
codes_of class.Tee = row Push Push Push
codes_of class.PullTee = row Pull Pull Push
codes_of class.Idle = row Agnostic Agnostic Agnostic
codes_of class.Discard = row Agnostic Agnostic Agnostic
codes_of class.Null = row Agnostic Agnostic Agnostic
codes_of class.PushNull = row Push Push Push
codes_of class.PullNull = row Pull Pull Pull
codes_of class.Suppressor = row Agnostic Agnostic Agnostic
codes_of class.Paint = row Agnostic Agnostic Agnostic
codes_of class.PaintTee = row Agnostic Agnostic Push
codes_of class.Strip = row Agnostic Agnostic Agnostic
codes_of class.CheckLength = row Agnostic Agnostic Push
codes_of class.Classifier = row Push Push Push
codes_of class.GetIPAddress = row Agnostic Agnostic Agnostic
codes_of class.StaticIPLookup = row Push Push Push
codes_of class.CheckIPHeader = row Agnostic Agnostic Push
codes_of class.DecIPTTL = row Agnostic Agnostic Push
codes_of class.EtherEncap = row Agnostic Agnostic Agnostic
codes_of class.InfiniteSource = row Agnostic Push Push
codes_of class.FromDevice = row Agnostic Push Push
codes_of class.ToDevice = row Pull Agnostic Agnostic
codes_of class.ARPResponder = row Agnostic Agnostic Push
codes_of class.ARPQuerier = row Push Push Push
codes_of class.ICMPError = row Agnostic Agnostic Agnostic
codes_of class.ICMPPingResponder = row Agnostic Agnostic Push
codes_of class.HostEtherFilter = row Agnostic Agnostic Push
codes_of class.EtherMirror = row Agnostic Agnostic Agnostic
codes_of class.IPMirror = row Agnostic Agnostic Agnostic
codes_of class.SetIPChecksum = row Agnostic Agnostic Agnostic
codes_of class.StripIPHeader = row Agnostic Agnostic Agnostic
codes_of class.UDPIPEncap = row Agnostic Agnostic Agnostic
codes_of class.IPFilter = row Push Push Push
codes_of class.IPClassifier = row Push Push Push

-- the code of a port
abbrev pub code : Class → Side → ℕ → Code
code c side.Input port = (codes_of c).inputs
code c side.Output port = if port == 0 then (codes_of c).output else (codes_of c).further

-- packets pass from every input to every output, except in Idle and Suppressor
abbrev pub passes : Class → ℕ → ℕ → Bool
passes class.Idle i o = false
passes class.Suppressor i o = i == o
passes _ i o = true

-- from a to b inputs, and from c to d outputs
abbrev pub ports : ℕ → ℕ → ℕ → ℕ → Counts
ports a b c d = record { inputs = (a, b); outputs = (c, d); equal = false }

-- the number of ports that a switch needs at least, if it uses this port
abbrev pub at_least : Option ℕ → ℕ
at_least None = 0
at_least (Some k) = k + 1

-- exactly as many as the argument says, or else 1 to 256
abbrev pub up_to_256 : Option ℕ → ℕ × ℕ
up_to_256 None = (1, 256)
up_to_256 (Some n) = (n, n)

-- the number of outputs that the entries of a table need
abbrev pub outputs_for : List Entry → ℕ
outputs_for [] = 0
outputs_for (e ∷ es) = max (e.output + 1) (outputs_for es)

abbrev pub counts : State → Counts
counts (state.Queue q d h) = ports 1 1 1 1
counts (state.FrontDropQueue q d h) = ports 1 1 1 1
counts state.Unqueue = ports 1 1 1 1
counts (state.Counter n b) = ports 1 1 1 1
counts (state.Switch k) = ports 1 1 (at_least k) 256
counts (state.PullSwitch k) = ports (at_least k) 256 1 1
counts (state.RoundRobinSwitch n) = ports 1 1 1 256
counts (state.RoundRobinSched n) = ports 1 256 1 1
counts state.PrioSched = ports 1 256 1 1
counts (state.Tee n) = ports 1 1 (up_to_256 n).0 (up_to_256 n).1
counts (state.PullTee n) = ports 1 1 (up_to_256 n).0 (up_to_256 n).1
counts state.Idle = ports 0 256 0 256
counts state.Discard = ports 1 1 0 0
counts state.Null = ports 1 1 1 1
counts state.PushNull = ports 1 1 1 1
counts state.PullNull = ports 1 1 1 1
counts (state.Suppressor a) = record (ports 1 16 1 16) { equal = true }
counts (state.Paint c) = ports 1 1 1 1
counts (state.PaintTee c) = ports 1 1 1 2
counts (state.Strip n) = ports 1 1 1 1
counts (state.CheckLength n) = ports 1 1 1 2
-- 65,535 is the greatest number of ports that a count can hold; no element has as many patterns
counts (state.Classifier ps) = ports 1 1 (min (length ps) 65535) (min (length ps) 65535)
counts (state.GetIPAddress n) = ports 1 1 1 1
counts (state.StaticIPLookup es) = ports 1 1 (outputs_for es) 256
counts (state.CheckIPHeader rs) = ports 1 1 1 2
counts state.DecIPTTL = ports 1 1 1 2
counts (state.EtherEncap header) = ports 1 1 1 1
counts (state.InfiniteSource b l u a n) = ports 0 0 1 1
counts (state.FromDevice d) = ports 0 0 1 1
counts (state.ToDevice d) = ports 1 1 0 0
counts (state.ARPResponder stations) = ports 1 1 1 2
counts (state.ARPQuerier q) = ports 2 2 1 2
counts (state.ICMPError r) = ports 1 1 1 1
counts state.ICMPPingResponder = ports 1 1 1 2
counts (state.HostEtherFilter ether) = ports 1 1 1 2
counts state.EtherMirror = ports 1 1 1 1
counts state.IPMirror = ports 1 1 1 1
counts state.SetIPChecksum = ports 1 1 1 1
counts state.StripIPHeader = ports 1 1 1 1
counts (state.UDPIPEncap t) = ports 1 1 1 1
-- as many outputs as the rules name
counts (state.IPFilter rules) = ports 1 1 (outputs_of rules) (outputs_of rules)
counts (state.IPClassifier rules) = ports 1 1 (outputs_of rules) (outputs_of rules)
