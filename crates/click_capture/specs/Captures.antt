-- The bytes of a capture: the classic format of pcap-savefile(5), version 2.4.
use Rattle.std.specs.Prelude.{◌≡◌, ◌≢◌, ℕ, ◌<◌, ◌^◌, List, [], ◌∷◌, ◌++◌, length, take, drop, ◌==◌, ◌||◌, nat_lt, if◌then◌else◌}
use Rattle.click_capture.specs.declared.order.Order.{Order}
use Rattle.click_capture.specs.declared.header.Resolution.{Resolution}
use Rattle.click_capture.specs.declared.header.Resolution.TheVariants as resolution
use Rattle.click_capture.specs.declared.header.Link.{Link}
use Rattle.click_capture.specs.declared.header.Link.TheVariants as link
use Rattle.click_capture.specs.declared.header.Header.{Header}
use Rattle.click_capture.specs.declared.record.Time.{Time}
use Rattle.click_capture.specs.declared.record.RecordHeader.{RecordHeader}
use Rattle.click_capture.specs.declared.fault.HeaderFault.{HeaderFault}
use Rattle.click_capture.specs.declared.fault.HeaderFault.TheVariants as fault
use Rattle.click_capture.specs.Numbers.{word, half}

-- the magic number that begins a capture with times in microseconds, or in nanoseconds
abbrev pub magic : Resolution → ℕ
magic resolution.Micro = 0xa1b2c3d4
magic resolution.Nano = 0xa1b23c4d

-- the number of the link type, which says what the packets begin with
abbrev pub link_number : Link → ℕ
link_number link.Ethernet = 1
link_number link.Raw = 101
link_number link.Ipv4 = 228

-- the bytes of a header, field by field
abbrev pub header_bytes : Header → List ℕ
header_bytes h =
    word h.order (magic h.resolution) ++ half h.order 2 ++ half h.order 4 ++ word h.order h.zone ++ word h.order h.accuracy ++ word h.order h.snap
    ++ word h.order (link_number h.link)

-- the bytes before those of a packet, field by field
abbrev pub head_bytes : Order → RecordHeader → List ℕ
head_bytes o head = word o head.time.seconds ++ word o head.time.fraction ++ word o head.kept ++ word o head.wire

-- a packet in a capture: its time of capture, its length on the wire, and the bytes that were kept
pub record Record : Type 0 where
  pub time : Time
  pub wire : ℕ
  pub bytes : List ℕ

abbrev pub head_with : Record → RecordHeader
head_with r = record { time = r.time; kept = length r.bytes; wire = r.wire }

-- a packet of which all bytes were kept
abbrev pub whole : Time → List ℕ → Record
whole time bytes = record { time = time; wire = length bytes; bytes = bytes }

abbrev pub record_bytes : Order → Record → List ℕ
record_bytes o r = head_bytes o (head_with r) ++ r.bytes

abbrev pub records_bytes : Order → List Record → List ℕ
records_bytes o [] = []
records_bytes o (r ∷ rs) = record_bytes o r ++ records_bytes o rs

-- the bytes of a capture: its header, and then its records, one after another
abbrev pub capture_bytes : Header → List Record → List ℕ
capture_bytes h rs = header_bytes h ++ records_bytes h.order rs

-- the maximum number of bytes of a record: the snap length, or 262,144 if that is 0 or larger
abbrev pub longest : ℕ → ℕ
longest snap = if snap == 0 || nat_lt 262144 snap then 262144 else snap

-- numbers that fit in their fields
pub record FitsHeader (h : Header) : Type 0 where
  pub zone : h.zone < 2 ^ 32
  pub accuracy : h.accuracy < 2 ^ 32
  pub snap : h.snap < 2 ^ 32

pub record FitsRecord (r : Record) : Type 0 where
  pub seconds : r.time.seconds < 2 ^ 32
  pub fraction : r.time.fraction < 2 ^ 32
  pub kept : length r.bytes < 2 ^ 32
  pub wire : r.wire < 2 ^ 32

abbrev pub AllFit : List Record → Type 0
AllFit [] = Unit {0}
AllFit (r ∷ rs) = FitsRecord r × AllFit rs

-- the bytes begin with the magic number of this byte order and resolution
abbrev pub Begins : List ℕ → Order → Resolution → Type 0
Begins bytes o r = take 4 bytes ≡ word o (magic r)

-- the first four bytes of a pcapng file, in either byte order: the type of its section header block
-- (the pcapng format, "Section Header Block")
abbrev pub section_header : List ℕ
section_header = 0x0a ∷ 0x0d ∷ 0x0d ∷ 0x0a ∷ []

-- The first fault of a header, from the left: a pcapng file, no magic number, another version than
-- 2.4, or another link type.
abbrev pub IsHeaderFault : List ℕ → HeaderFault → Type 0
IsHeaderFault bytes fault.Pcapng = take 4 bytes ≡ section_header
IsHeaderFault bytes fault.Magic = (take 4 bytes ≢ section_header) × ((o : Order) (r : Resolution) → take 4 bytes ≢ word o (magic r))
IsHeaderFault bytes (fault.Version major minor) =
    (o : Order) × (r : Resolution) × Begins bytes o r × (take 4 (drop 4 bytes) ≡ half o major ++ half o minor) × ((major ≡ 2) × (minor ≡ 4) → ⊥) × (major < 2 ^ 16) × (minor < 2 ^ 16)
IsHeaderFault bytes (fault.Link number) =
    (o : Order) × (r : Resolution) × Begins bytes o r × (take 4 (drop 4 bytes) ≡ half o 2 ++ half o 4) × (drop 20 bytes ≡ word o number) × ((l : Link) → number ≢ link_number l) × (number < 2 ^ 32)
