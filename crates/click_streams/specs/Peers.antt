-- The two ends of a session, the source of its bytes and the sink of its replies, as contracts see
-- them.
use Rattle.std.specs.Prelude.{◌≡◌, ℕ, ◌+◌, List, ◌++◌, Bool, ◌||◌, Option}
use Rattle.std.specs.Io.KnownBytes.{Consumes, Appends}

-- A source: the bytes still to come, if they are known; whether a read has failed; and the number
-- of reads that did not fail.
pub record Input : Type 0 where
  pub remaining : Option (List ℕ)
  pub failed : Bool
  pub reads : ℕ

-- A sink: the bytes that were taken, if they are known; and whether a write has failed.
pub record Output : Type 0 where
  pub contents : Option (List ℕ)
  pub failed : Bool

-- Between two moments exactly these bytes were read, by this number of reads that did not fail. The
-- last argument says whether a read failed.
pub record HasRead (had left : Input) (bytes : List ℕ) (reads : ℕ) (read_failed : Bool) : Type 0 where
  pub consumed : Consumes had.remaining left.remaining bytes
  pub counted : left.reads ≡ had.reads + reads
  pub failed : left.failed ≡ (had.failed || read_failed)

-- Between two moments exactly these bytes were written. The last argument says whether a write
-- failed.
pub record HasWritten (held holds : Output) (bytes : List ℕ) (write_failed : Bool) : Type 0 where
  pub appended : Appends held.contents holds.contents bytes
  pub failed : holds.failed ≡ (held.failed || write_failed)

-- A prefix of the bytes was written. The last argument says whether a write failed.
abbrev pub WroteFront : Output → Output → List ℕ → Bool → Type 0
WroteFront held holds bytes write_failed = (front : List ℕ) × (rest : List ℕ) × (bytes ≡ front ++ rest) × HasWritten held holds front write_failed
