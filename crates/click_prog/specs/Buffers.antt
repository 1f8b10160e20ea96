-- A buffer in front of a sink.
use Rattle.std.specs.Prelude.{ℕ, List, Option}
use Rattle.std.specs.Io.KnownBytes.{Appends, append_known}
use Rattle.click_streams.specs.Peers.{Output}

-- the sink, and the bytes that the buffer took and that are not written yet
pub record BufferState (O : Type 0) : Type 0 where
  pub sink : O
  pub held : List ℕ

-- The output of a buffer: that of its sink, followed by the bytes in the buffer. It has failed if
-- its sink has.
abbrev pub taken : {O : Type 0} → (O → Output) → BufferState O → Output
taken output b = record { contents = append_known (output b.sink).contents b.held; failed = (output b.sink).failed }

-- the contents of a sink grew by some bytes, if they are known
abbrev pub Grew : Option (List ℕ) → Option (List ℕ) → Type 0
Grew old new = (bytes : List ℕ) × Appends old new bytes
