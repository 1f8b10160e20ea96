-- Reading a capture from a source.
use Rattle.std.specs.Prelude.{◌≡◌, ◌⊎◌, ℕ, ◌<◌, ◌≤◌, ◌+◌, List, [], ◌++◌, length, take, true, Result, Ok, Err}
use Rattle.std.specs.Io.KnownBytes.{Consumes, IsAtEnd}
use Rattle.click_capture.specs.Captures.{Record, header_bytes, head_bytes, record_bytes, longest, IsHeaderFault}
use Rattle.click_capture.specs.declared.header.Header.{Header}
use Rattle.click_capture.specs.declared.record.RecordHeader.{RecordHeader}
use Rattle.click_streams.specs.Peers.{Input}
use Rattle.click_prog.specs.declared.pcap.reading.HeaderReadFault.{HeaderReadFault}
use Rattle.click_prog.specs.declared.pcap.reading.HeaderReadFault.TheVariants as no_header
use Rattle.click_prog.specs.declared.pcap.reading.RecordReadFault.{RecordReadFault}
use Rattle.click_prog.specs.declared.pcap.reading.RecordReadFault.TheVariants as no_record
use Rattle.click_prog.specs.declared.pcap.reading.NextRecord.{NextRecord}
use Rattle.click_prog.specs.declared.pcap.reading.NextRecord.TheVariants as next

-- Between two moments these bytes were read, and no read failed.
pub record Took (had left : Input) (bytes : List ℕ) : Type 0 where
  pub consumed : Consumes had.remaining left.remaining bytes
  pub failed : left.failed ≡ had.failed

-- These bytes were read, they were the last ones, and no read failed.
pub record TookAll (had left : Input) (bytes : List ℕ) : Type 0 where
  pub took : Took had left bytes
  pub ended : IsAtEnd left.remaining

-- Some bytes were read, and then a read failed.
pub record ReadFails (had left : Input) : Type 0 where
  pub bytes : List ℕ
  pub consumed : Consumes had.remaining left.remaining bytes
  pub failed : left.failed ≡ true

-- As many bytes were read as were asked for, or all that were left.
pub record Fills (had left : Input) (asked : ℕ) (bytes : List ℕ) : Type 0 where
  pub took : Took had left bytes
  pub within : length bytes ≤ asked
  pub ended : length bytes < asked → IsAtEnd left.remaining

-- The outcome of reading a header: the header, or 24 bytes with this fault, or fewer bytes and no
-- more, or a failed read.
abbrev pub ReadsHeader : Input → Input → Result Header HeaderReadFault → Type 0
ReadsHeader had left (Ok header) = Took had left (header_bytes header)
ReadsHeader had left (Err (no_header.Fault fault)) = (bytes : List ℕ) × Took had left bytes × (length bytes ≡ 24) × IsHeaderFault bytes fault
ReadsHeader had left (Err (no_header.Short count)) = (bytes : List ℕ) × TookAll had left bytes × (length bytes ≡ count) × (count < 24)
ReadsHeader had left (Err no_header.ReadFailed) = ReadFails had left

-- the record of a packet whose bytes are the first ones of a piece
abbrev pub record_in : List ℕ → RecordHeader → Record
record_in piece head = record { time = head.time; wire = head.wire; bytes = take head.kept piece }

-- the bytes are the beginning of a record, of which some bytes are missing
abbrev pub IsCut : Header → List ℕ → Type 0
IsCut header bytes =
    ((0 < length bytes) × (length bytes < 16))
    ⊎ ((head : RecordHeader) × (front : List ℕ) × (bytes ≡ head_bytes header.order head ++ front) × (head.kept ≤ longest header.snap) × (length front < head.kept))

-- The outcome of reading a record. The record was read, and its packet is at the front of the
-- piece. Or no byte was left. Or the bytes that were left are not a whole record. Or 16 bytes were
-- read which announce a packet that is longer than the capture allows. Or a read failed.
abbrev pub ReadsRecord : Header → Input → Input → List ℕ → Result NextRecord RecordReadFault → Type 0
ReadsRecord header had left piece (Ok next.End) = TookAll had left []
ReadsRecord header had left piece (Ok (next.Packet head)) =
    Took had left (record_bytes header.order (record_in piece head)) × (length (take head.kept piece) ≡ head.kept) × (head.kept ≤ longest header.snap)
ReadsRecord header had left piece (Err no_record.Cut) = (bytes : List ℕ) × TookAll had left bytes × IsCut header bytes
ReadsRecord header had left piece (Err (no_record.TooLong fault)) =
    (head : RecordHeader) × Took had left (head_bytes header.order head) × (head.kept ≡ fault.claimed) × (fault.most ≡ longest header.snap) × (fault.most < fault.claimed)
ReadsRecord header had left piece (Err no_record.ReadFailed) = ReadFails had left

-- The next record can be read from these bytes alone. They contain it, or its first 16 bytes, which
-- announce a packet that is too long.
abbrev pub IsAtHand : Header → List ℕ → Type 0
IsAtHand header ready =
    (head : RecordHeader) × (take 16 ready ≡ head_bytes header.order head) × ((longest header.snap < head.kept) ⊎ (16 + head.kept ≤ length ready))
