use Rattle.std.proofs.Common.{◌≡◌, drop}
use Rattle.click_router.specs.One.{arrivals}
use Rattle.click_router.proofs.running.enter_all.Given as goal

-- the packets from here on remain, and enter the current plant
abbrev pub invariant-loop-packet : goal.invariant-loop-packet
invariant-loop-packet l = arrivals l.plant l.device (drop l.packet-index l.taken) ≡ arrivals l.initial.plant l.device l.taken
