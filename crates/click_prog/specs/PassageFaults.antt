-- The reasons why a run cannot begin.
use Rattle.std.specs.Prelude.{◌≡◌, ℕ, List, IsSome}
use Rattle.click_engine.specs.Rounds.{source_of, sink_of}
use Rattle.click_router.specs.Opened.{IsOpened, IsFirstFault}
use Rattle.click_router.specs.State.{RouterState}
use Rattle.click_router.specs.declared.fault.FaultKind.TheVariants as kind
use Rattle.click_prog.specs.declared.pcap.capture_router.PassageFault.{PassageFault}
use Rattle.click_prog.specs.declared.pcap.capture_router.PassageFault.TheVariants as none

-- the text opens no router, because of its first fault, or for out of memory
abbrev pub IsConfigFault : List ℕ → PassageFault → Type 0
IsConfigFault text (none.Config f) = IsFirstFault text f × (f.kind ≡ kind.NoMemory → ⊥)
IsConfigFault text none.NoMemory = Unit {0}
IsConfigFault text _ = ⊥

-- The reason why a run cannot begin. The text opens no router. Or its router has no source of the
-- one device. Or it has that source, and no sink of the other device.
abbrev pub IsNoPassage : List ℕ → List ℕ → List ℕ → PassageFault → Type 0
IsNoPassage text source sink none.NoSource = (s : RouterState) × IsOpened text s × (IsSome (source_of s.plant source) → ⊥)
IsNoPassage text source sink none.NoSink =
    (s : RouterState) × IsOpened text s × IsSome (source_of s.plant source) × (IsSome (sink_of s.plant sink) → ⊥)
IsNoPassage text source sink why = IsConfigFault text why
