-- Devices under the source and the sink of a session. A reader or writer records what its device
-- did, and each of its calls is one call of the device.
use Rattle.std.specs.Prelude.{◌≡◌, ◌⊎◌, ℕ, zero, suc, ◌<◌, List, Bool, true, false, Result, Ok, Err, is_err}
use Rattle.std.specs.declared.io.Error.{Error}
use Rattle.click_streams.specs.declared.peer.Failed.{Failed}

-- a reader with its device: whether a read has failed, and the number of reads that did not
pub record WatchedReader (D : Type 0) : Type 0 where
  pub device : D
  pub failed : Bool
  pub reads : ℕ

-- a writer with its device: whether a write has failed
pub record WatchedWriter (D : Type 0) : Type 0 where
  pub device : D
  pub failed : Bool

-- the maximum count of reads
abbrev pub most_counted : ℕ
most_counted = 18446744073709551615

-- the reader's result is that of the device; any error becomes the failure
abbrev pub HandsOn : Result ℕ Error → Result ℕ Failed → Type 0
HandsOn (Ok n) result = result ≡ Ok n
HandsOn (Err e) result = is_err result ≡ true

-- the writer's result is that of the device; any error, and a write that takes no byte, becomes the
-- failure
abbrev pub HandsOnSome : Result ℕ Error → Result ℕ Failed → Type 0
HandsOnSome (Ok zero) result = is_err result ≡ true
HandsOnSome (Ok (suc n)) result = result ≡ Ok (suc n)
HandsOnSome (Err e) result = is_err result ≡ true

-- A read by the reader is exactly one read of its device, with the device's result. After a
-- failure, or once the maximum count is reached, the read fails and the device is unchanged.
pub record ReadsOnce {D : Type 0} (reads : D → Result ℕ Error → List ℕ → D → Type 0) (old new : WatchedReader D) (result : Result ℕ Failed) (piece : List ℕ) : Type 0 where
  pub asks : old.failed ≡ false → old.reads < most_counted → (answer : Result ℕ Error) × reads old.device answer piece new.device × HandsOn answer result
  pub leaves : (old.failed ≡ true) ⊎ (old.reads ≡ most_counted) → (is_err result ≡ true) × (new.device ≡ old.device)

-- A write by the writer is exactly one write of its device, with the device's result. After a
-- failure the write fails and the device is unchanged.
pub record WritesOnce {D : Type 0} (writes : D → Result ℕ Error → List ℕ → D → Type 0) (old new : WatchedWriter D) (result : Result ℕ Failed) (bytes : List ℕ) : Type 0 where
  pub asks : old.failed ≡ false → (answer : Result ℕ Error) × writes old.device answer bytes new.device × HandsOnSome answer result
  pub leaves : old.failed ≡ true → (is_err result ≡ true) × (new.device ≡ old.device)
