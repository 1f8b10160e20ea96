-- Sending the packets of a capture through a router, and writing those that leave it as a capture.
use Rattle.std.specs.Prelude.{◌≡◌, ◌⊎◌, ℕ, ◌<◌, ◌≤◌, ◌+◌, ◌-◌, ◌^◌, ◌==◌, min, is_err, nat_lt, if◌then◌else◌, List, [], ◌∷◌, ◌++◌, length, true, false, None, Result, Ok, Err}
use Rattle.std.specs.Io.KnownBytes.{IsAtEnd, Appends}
use Rattle.click_packet.specs.Packet.{Packet}
use Rattle.click_capture.specs.Captures.{Record, whole, header_bytes, head_bytes, record_bytes, records_bytes, capture_bytes, longest}
use Rattle.click_capture.specs.declared.order.Order.{Order}
use Rattle.click_capture.specs.declared.header.Header.{Header}
use Rattle.click_capture.specs.declared.record.Time.{Time}
use Rattle.click_capture.specs.declared.record.RecordHeader.{RecordHeader}
use Rattle.click_streams.specs.Peers.{Input, Output, HasWritten, WroteFront}
use Rattle.click_router.specs.State.{RouterState}
use Rattle.click_prog.specs.declared.pcap.reading.HeaderReadFault.{HeaderReadFault}
use Rattle.click_prog.specs.declared.pcap.reading.HeaderReadFault.TheVariants as no_header
use Rattle.click_prog.specs.declared.pcap.carry_fault.CarryFault.{CarryFault}
use Rattle.click_prog.specs.declared.pcap.carry_fault.CarryFault.TheVariants as carry_fault
use Rattle.click_prog.specs.declared.pcap.carry_fault.SendFault.{SendFault}
use Rattle.click_prog.specs.declared.pcap.carry_fault.SendFault.TheVariants as unsent
use Rattle.click_prog.specs.Buffers.{Grew}
use Rattle.click_prog.specs.Reading.{Took, TookAll, ReadFails, ReadsHeader, IsCut}
use Rattle.click_prog.specs.Passages.{PassageState, went, packet_of, Enters, Asked, Gave, Leads}

-- The snap length of the header to write: it has room for each packet that a router may send. 0
-- stays 0. `widened_header` is the header with it.
abbrev pub wide_snap : ℕ → ℕ
wide_snap snap = if snap == 0 then 0 else if nat_lt snap 1600 then 1600 else snap

abbrev pub widened_header : Header → Header
widened_header h = record h { snap = wide_snap h.snap }

-- packets as records of one time
abbrev pub at_time : Time → List Packet → List Record
at_time time [] = []
at_time time (p ∷ ps) = whole time p.bytes ∷ at_time time ps

-- the bytes of packets as records of one time
abbrev pub records_at : Order → Time → List Packet → List ℕ
records_at o time sent = records_bytes o (at_time time sent)

-- What one record leads to. A packet of more than 1,600 bytes is left out and leads to nothing. Any
-- other one leads to the packets that the sink returns after it, with the record's time.
abbrev pub Gives : List ℕ → List ℕ → Record → RouterState → List Packet → RouterState → Type 0
Gives source sink from old sent new =
    ((1600 < length from.bytes) × (sent ≡ []) × (new ≡ old)) ⊎ ((length from.bytes ≤ 1600) × Leads source sink (packet_of from.bytes) old sent new)

-- What records lead to, one after another.
abbrev pub AllGive : List ℕ → List ℕ → List Record → RouterState → List Record → RouterState → Type 0
AllGive source sink [] old outs new = (outs ≡ []) × (new ≡ old)
AllGive source sink (r ∷ rs) old outs new =
    (sent : List Packet) × (next : RouterState) × (rest : List Record) × Gives source sink r old sent next × AllGive source sink rs next rest new × (outs ≡ at_time r.time sent ++ rest)

-- Between two moments these records of a capture were read, and what they lead to was written.
pub record Carried (h : Header) (had left : Input) (held holds : Output) (old new : PassageState) (records : List Record) : Type 0 where
  pub read : Took had left (capture_bytes h records)
  pub outs : List Record
  pub give : AllGive old.source old.sink records old.router outs new.router
  pub ends : new ≡ went old new.router
  pub written : HasWritten held holds (capture_bytes (widened_header h) outs) false

-- How the packets that the sink returned were written, by the outcome.
-- Ok: all of them were written, up to the first time that the sink had none.
-- GivesOn: the sink was asked 1,048,576 times, returned a packet each time, and all are written.
-- WriteFailed: all except the last are written, and a prefix of the last.
abbrev pub SendsAll : {T : Type 0} → Header → Time → PassageState → PassageState → Output → Output → Result T SendFault → Type 0
SendsAll h time old new held holds (Ok _) =
    (sent : List Packet) × (emptied : RouterState) × Gave old.sink old.router sent emptied × Asked old.sink emptied None new.router
    × HasWritten held holds (records_at h.order time sent) false
SendsAll h time old new held holds (Err unsent.GivesOn) =
    (sent : List Packet) × (length sent ≡ 1048576) × Gave old.sink old.router sent new.router × HasWritten held holds (records_at h.order time sent) false
SendsAll h time old new held holds (Err unsent.WriteFailed) =
    (sent : List Packet) × (last : Packet) × Gave old.sink old.router (sent ++ last ∷ []) new.router
    × ((mid : Output) × HasWritten held mid (records_at h.order time sent) false × WroteFront mid holds (record_bytes h.order (whole time last.bytes)) true)

-- What was done for one record. Either what it leads to was written. Or its packet entered, and the
-- packets that the sink returned after it were not all written.
abbrev pub Passes : {T : Type 0} → Header → Record → PassageState → PassageState → Output → Output → Result T SendFault → Type 0
Passes h from old new held holds (Ok _) =
    (sent : List Packet) × Gives old.source old.sink from old.router sent new.router × (new ≡ went old new.router) × HasWritten held holds (records_at h.order from.time sent) false
Passes {T} h from old new held holds (Err why) =
    (entered : RouterState) × (length from.bytes ≤ 1600) × Enters old.source (packet_of from.bytes) old.router entered × SendsAll {T = T} h from.time (went old entered) new held holds (Err why)
    × (new ≡ went old new.router)

-- the fault of a run for the fault at one record, with the number of the record and the byte at
-- which it begins
abbrev pub send_carry_fault : SendFault → ℕ → ℕ → CarryFault
send_carry_fault unsent.GivesOn number at = carry_fault.GivesOn number at
send_carry_fault unsent.WriteFailed number at = carry_fault.WriteFailed

-- one more record was read, and the run stopped early at it, with this fault
abbrev pub Interrupted : Header → Input → Input → Output → Output → PassageState → PassageState → SendFault → Type 0
Interrupted h mid left midst holds before new why =
    (from : Record) × Took mid left (record_bytes h.order from) × Passes {T = Unit {0}} h from before new midst holds (Err why)

-- the byte of the capture at which the next record begins, but at most 2^64 - 1
abbrev pub IsNextAt : Header → List Record → ℕ → Type 0
IsNextAt h records at = at ≡ min (length (capture_bytes h records)) (2 ^ 64 - 1)

-- Which records of a capture were carried after its header was read and written, by the outcome.
-- Ok: all of them.
-- Cut, TooLong, ReadFailed: those before a record that is cut, is too long, or cannot be read.
-- GivesOn: those before a record after which the sink returned a packet each time.
-- WriteFailed: those before a record during which a write failed, or before a write that failed
-- between two records.
-- NoMemory: none.
-- Uncounted: 2^64 - 1 of them.
abbrev pub Ends : {T : Type 0} → Header → Input → Input → Output → Output → PassageState → PassageState → Result T CarryFault → Type 0
Ends h had left held holds first new (Ok _) = (records : List Record) × Carried h had left held holds first new records × IsAtEnd left.remaining
Ends h had left held holds first new (Err (carry_fault.Cut number at)) =
    (records : List Record) × (mid : Input) × Carried h had mid held holds first new records × (number ≡ length records + 1) × ((bytes : List ℕ) × TookAll mid left bytes × IsCut h bytes)
    × IsNextAt h records at
Ends h had left held holds first new (Err (carry_fault.TooLong number at fault)) =
    (records : List Record) × (mid : Input) × Carried h had mid held holds first new records × (number ≡ length records + 1)
    × ((head : RecordHeader) × Took mid left (head_bytes h.order head) × (head.kept ≡ fault.claimed) × (fault.most ≡ longest h.snap) × (fault.most < fault.claimed)) × IsNextAt h records at
Ends h had left held holds first new (Err carry_fault.ReadFailed) =
    (records : List Record) × (mid : Input) × Carried h had mid held holds first new records × ReadFails mid left
Ends h had left held holds first new (Err (carry_fault.GivesOn number at)) =
    (records : List Record) × (mid : Input) × (midst : Output) × (before : PassageState) × Carried h had mid held midst first before records
    × Interrupted h mid left midst holds before new unsent.GivesOn × (number ≡ length records + 1) × IsNextAt h records at
Ends h had left held holds first new (Err carry_fault.WriteFailed) =
    ((records : List Record) × (mid : Input) × (midst : Output) × (before : PassageState) × Carried h had mid held midst first before records
    × Interrupted h mid left midst holds before new unsent.WriteFailed)
    ⊎ ((records : List Record) × (midst : Output) × Carried h had left held midst first new records × HasWritten midst holds [] true)
Ends h had left held holds first new (Err carry_fault.NoMemory) = Carried h had left held holds first new []
Ends h had left held holds first new (Err carry_fault.Uncounted) = (records : List Record) × Carried h had left held holds first new records × (length records ≡ 2 ^ 64 - 1)
Ends h had left held holds first new (Err _) = ⊥

-- the fault of a run whose header was not read
abbrev pub header_carry_fault : HeaderReadFault → CarryFault
header_carry_fault no_header.ReadFailed = carry_fault.ReadFailed
header_carry_fault (no_header.Short count) = carry_fault.ShortHeader count
header_carry_fault (no_header.Fault fault) = carry_fault.Header fault

-- The header was written. Or nothing was, with out of memory. Or a prefix of it was, and a write
-- failed.
abbrev pub WroteHeader : {T : Type 0} → Header → Output → Output → Result T CarryFault → Type 0
WroteHeader h held holds (Ok _) = HasWritten held holds (header_bytes h) false
WroteHeader h held holds (Err carry_fault.NoMemory) = holds ≡ held
WroteHeader h held holds (Err carry_fault.WriteFailed) = WroteFront held holds (header_bytes h) true
WroteHeader h held holds (Err _) = ⊥

-- How a capture was carried. Either no header was read, and nothing was done. Or one was read and
-- could not be written. Or its records were carried.
abbrev pub Carries : {T : Type 0} → Input → Input → Output → Output → PassageState → PassageState → Result T CarryFault → Type 0
Carries {T} had left held holds old new result =
    ((why : HeaderReadFault) × ReadsHeader had left (Err why) × (result ≡ Err (header_carry_fault why)) × (holds ≡ held) × (new ≡ old))
    ⊎ (((h : Header) × Took had left (header_bytes h) × (is_err result ≡ true) × WroteHeader (widened_header h) held holds result × (new ≡ old))
    ⊎ ((h : Header) × Ends h had left held holds old new result))

-- How a capture was carried after its header was read. Either a prefix of the header was written
-- and a write failed. Or its records were carried.
abbrev pub CarriesBehind : {T : Type 0} → Header → Input → Input → Output → Output → PassageState → PassageState → Result T CarryFault → Type 0
CarriesBehind {T} h had left held holds old new result =
    (Took had left (header_bytes h) × (result ≡ Err carry_fault.WriteFailed) × WroteFront held holds (header_bytes (widened_header h)) true × (new ≡ old))
    ⊎ Ends h had left held holds old new result

-- How a capture was carried through a buffer into a sink. Either everything that the buffer took is
-- written, and the capture was carried as without a buffer. Or a write failed, as the result says.
-- In this case the sink has what it held before, followed by a prefix of what the buffer took,
-- which is what some run wrote without a buffer.
abbrev pub CarriesThrough : {T : Type 0} → Input → Input → Output → Output → PassageState → PassageState → Result T CarryFault → Type 0
CarriesThrough {T} had left held holds old new result =
    Carries had left held holds old new result
    ⊎ ((result ≡ Err carry_fault.WriteFailed) × (holds.failed ≡ true) × Grew held.contents holds.contents
    × ((taken : Output) × (run : Result T CarryFault) × Carries had left held taken old new run × ((rest : List ℕ) × Appends holds.contents taken.contents rest)))
