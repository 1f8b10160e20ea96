-- The parts of a router that calls leave unchanged.
use Rattle.std.proofs.Common.{◌≡◌, inl, inr, ℕ, List, [], ◌∷◌, refl, ap, ◌∙◌}
use Rattle.click_packet.specs.Packet.{Packet}
use Rattle.click_engine.specs.Plant.{Plant}
use Rattle.click_engine.specs.Rounds.{arrive, round}
use Rattle.click_engine.proofs.OfInvariants.ElementInvariants.{arrive-settings, round-settings}
use Rattle.click_router.specs.One.{arrivals}
use Rattle.click_router.specs.Opened.{IsMemoryOr}
use Rattle.click_router.specs.declared.fault.ConfigFault.{ConfigFault}
use Rattle.click_router.specs.declared.fault.FaultKind.TheVariants as kind

pub arrivals-net : (v : Plant) (device : List ℕ) (ps : List Packet) → (arrivals v device ps).net ≡ v.net
arrivals-net v device [] = refl
arrivals-net v device (p ∷ ps) = arrivals-net (arrive v device p) device ps ∙ ap (λ (x : Plant). x.net) (arrive-settings v device p).rest

pub round-net : (v : Plant) → (round v).plant.net ≡ v.net
round-net v = ap (λ (x : Plant). x.net) (round-settings v).rest

-- a fault other than out of memory
pub other_fault : (P : Type 0) (f : ConfigFault) → (f.kind ≡ kind.NoMemory → ⊥) → IsMemoryOr f P → P
other_fault P f ne (inl m) = absurd (ne (ap (λ (x : ConfigFault). x.kind) m))
other_fault P f ne (inr p) = p
