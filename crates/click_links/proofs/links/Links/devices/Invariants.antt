use Rattle.std.proofs.Common.{◌≡◌, map, take}
use Rattle.click_links.specs.Turns.{names_of}
use Rattle.click_links.proofs.links.Links.devices.Given as goal

abbrev pub invariant-loop-receiver : goal.invariant-loop-receiver
invariant-loop-receiver g l = names_of l.devices.items ≡ map (λ r. r.device) (take l.receiver-index l.receiver-items)
