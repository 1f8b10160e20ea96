-- Lemmas on flushing a buffer: what was carried before a flush is carried after it, because a flush
-- takes no more bytes.
use Rattle.std.proofs.Common.{◌≡◌, ℕ, List, [], Bool, true, false, Option, None, Some, Result, Ok, Err, inl, inr, refl, sym, ap, subst, ◌∙◌}
use Rattle.std.specs.Io.KnownBytes.{Appends, append_known}
use Rattle.click_capture.specs.Captures.{Record}
use Rattle.click_capture.specs.declared.header.Header.{Header}
use Rattle.click_capture.specs.declared.record.Time.{Time}
use Rattle.click_streams.specs.Peers.{Input, Output, HasWritten, WroteFront}
use Rattle.click_prog.specs.declared.pcap.carry_fault.CarryFault.{CarryFault}
use Rattle.click_prog.specs.declared.pcap.carry_fault.CarryFault.TheVariants as carry_fault
use Rattle.click_prog.specs.declared.pcap.carry_fault.SendFault.{SendFault}
use Rattle.click_prog.specs.declared.pcap.carry_fault.SendFault.TheVariants as unsent
use Rattle.click_prog.specs.Buffers.{BufferState, taken, Grew}
use Rattle.click_prog.specs.Passages.{PassageState, went}
use Rattle.click_prog.specs.Carrying.{SendsAll, Interrupted, Carried, Ends, CarriesBehind, Carries, CarriesThrough}
use Rattle.click_streams.proofs.Peers.{or-false, or-true}
use Rattle.click_prog.proofs.Outputs.{HasWritten-flushed, none_held}

pub carried-flushed : (h : Header) (had left : Input) (held holds now : Output) (first new : PassageState) (records : List Record)
    → Carried h had left held holds first new records → HasWritten holds now [] false → Carried h had left held now first new records
carried-flushed h had left held holds now first new records c w = record {
  read = c.read;
  outs = c.outs;
  give = c.give;
  ends = c.ends;
  written = HasWritten-flushed held holds now _ false c.written w;
}

front-flushed : (held holds now : Output) (bytes : List ℕ) → WroteFront held holds bytes true → HasWritten holds now [] false → WroteFront held now bytes true
front-flushed held holds now bytes f w = (f.0, f.1, f.2, HasWritten-flushed held holds now _ true f.3 w)

sends-flushed : (h : Header) (time : Time) (old new : PassageState) (held holds now : Output) (why : SendFault)
    → SendsAll {T = Unit {0}} h time old new held holds (Err why) → HasWritten holds now [] false → SendsAll {T = Unit {0}} h time old new held now (Err why)
sends-flushed h time old new held holds now unsent.GivesOn s w = (s.0, s.1, s.2, HasWritten-flushed held holds now _ false s.3 w)
sends-flushed h time old new held holds now unsent.WriteFailed s w = (s.0, s.1, s.2, (s.3.0, s.3.1, front-flushed s.3.0 holds now _ s.3.2 w))

interrupted-flushed : (h : Header) (mid left : Input) (midst holds now : Output) (before new : PassageState) (why : SendFault)
    → Interrupted h mid left midst holds before new why → HasWritten holds now [] false → Interrupted h mid left midst now before new why
interrupted-flushed h mid left midst holds now before new why i w =
    (i.0, i.1, (i.2.0, i.2.1, i.2.2, sends-flushed h i.0.time (went before i.2.0) new midst holds now why i.2.3 w, i.2.4))

ends-flushed : (T : Type 0) (h : Header) (had left : Input) (held holds now : Output) (first new : PassageState) (result : Result T CarryFault)
    → Ends h had left held holds first new result → HasWritten holds now [] false → Ends h had left held now first new result
ends-flushed T h had left held holds now first new (Ok v) e w = (e.0, carried-flushed h had left held holds now first new e.0 e.1 w, e.2)
ends-flushed T h had left held holds now first new (Err (carry_fault.ShortHeader at)) e w = e
ends-flushed T h had left held holds now first new (Err (carry_fault.Header fault)) e w = e
ends-flushed T h had left held holds now first new (Err (carry_fault.Cut number at)) e w =
    (e.0, e.1, carried-flushed h had e.1 held holds now first new e.0 e.2 w, e.3, e.4, e.5)
ends-flushed T h had left held holds now first new (Err (carry_fault.TooLong number at fault)) e w =
    (e.0, e.1, carried-flushed h had e.1 held holds now first new e.0 e.2 w, e.3, e.4, e.5)
ends-flushed T h had left held holds now first new (Err (carry_fault.GivesOn number at)) e w =
    (e.0, e.1, e.2, e.3, e.4, interrupted-flushed h e.1 left e.2 holds now e.3 new unsent.GivesOn e.5 w, e.6, e.7)
ends-flushed T h had left held holds now first new (Err carry_fault.Uncounted) e w = (e.0, carried-flushed h had left held holds now first new e.0 e.1 w, e.2)
ends-flushed T h had left held holds now first new (Err carry_fault.NoMemory) e w = carried-flushed h had left held holds now first new [] e w
ends-flushed T h had left held holds now first new (Err carry_fault.ReadFailed) e w = (e.0, e.1, carried-flushed h had e.1 held holds now first new e.0 e.2 w, e.3)
ends-flushed T h had left held holds now first new (Err carry_fault.WriteFailed) (inl e) w =
    inl (e.0, e.1, e.2, e.3, e.4, interrupted-flushed h e.1 left e.2 holds now e.3 new unsent.WriteFailed e.5 w)
ends-flushed T h had left held holds now first new (Err carry_fault.WriteFailed) (inr e) w = inr (e.0, e.1, e.2, HasWritten-flushed e.1 holds now [] true e.3 w)

pub behind-flushed : (T : Type 0) (h : Header) (had left : Input) (held holds now : Output) (old new : PassageState) (result : Result T CarryFault)
    → CarriesBehind h had left held holds old new result → HasWritten holds now [] false → CarriesBehind h had left held now old new result
behind-flushed T h had left held holds now old new result (inl c) w = inl (c.0, c.1, front-flushed held holds now _ c.2 w, c.3)
behind-flushed T h had left held holds now old new result (inr e) w = inr (ends-flushed T h had left held holds now old new result e w)

pub behind-carries : (T : Type 0) (h : Header) (had left : Input) (held holds : Output) (old new : PassageState) (result : Result T CarryFault)
    → CarriesBehind h had left held holds old new result → Carries had left held holds old new result
behind-carries T h had left held holds old new result (inl c) =
    subst (λ (r : Result T CarryFault). Carries {T = T} had left held holds old new r) (sym c.1) (inr (inl (h, c.0, refl, c.2, c.3)))
behind-carries T h had left held holds old new result (inr e) = inr (inr (h, e))

-- the last flush succeeded
pub through-good : (T O : Type 0) (output : O → Output) (h : Header) (had left : Input) (was now : O) (first mid last : BufferState O) (old new : PassageState) (result : Result T CarryFault)
    → (first.sink ≡ was) × (first.held ≡ []) → CarriesBehind h had left (taken output first) (taken output mid) old new result → HasWritten (taken output mid) (taken output last) [] false → last.held ≡ []
    → now ≡ last.sink → CarriesThrough had left (output was) (output now) old new result
through-good T O output h had left was now first mid last old new result begins c w gone is =
    let carried = behind-carries T h had left (taken output first) (taken output last) old new result
    (behind-flushed T h had left (taken output first) (taken output mid) (taken output last) old new result c w) in
    let from : Carries had left (output was) (taken output last) old new result =
    subst (λ (o : Output). Carries had left o (taken output last) old new result) (none_held output first begins.1 ∙ ap output begins.0) carried in
    inl (subst (λ (o : Output). Carries had left (output was) o old new result) (none_held output last gone ∙ ap output (sym is)) from)

appends-held : (c : Option (List ℕ)) (bs : List ℕ) → Appends c (append_known c bs) bs
appends-held None bs = tt
appends-held (Some xs) bs = refl

-- the last flush failed
pub through-failed : (T O : Type 0) (output : O → Output) (h : Header) (had left : Input) (was now : O) (first mid last : BufferState O) (old new : PassageState) (run : Result T CarryFault)
    → (first.sink ≡ was) × (first.held ≡ []) → CarriesBehind h had left (taken output first) (taken output mid) old new run → HasWritten (taken output mid) (taken output last) [] true
    → now ≡ last.sink → Grew (output was).contents (output now).contents → CarriesThrough {T = T} had left (output was) (output now) old new (Err carry_fault.WriteFailed)
through-failed T O output h had left was now first mid last old new run begins c w is grew =
    let before : Bool = (output mid.sink).failed in
    let all : Output = record { contents = (taken output last).contents; failed = before } in
    let took : HasWritten (taken output mid) all [] false = record { appended = w.appended; failed = sym (or-false before) } in
    let carried = behind-carries T h had left (taken output first) all old new run
    (behind-flushed T h had left (taken output first) (taken output mid) all old new run c took) in
    let from : Carries had left (output was) all old new run =
    subst (λ (o : Output). Carries had left o all old new run) (none_held output first begins.1 ∙ ap output begins.0) carried in
    let failed : (output now).failed ≡ true = ap (λ (s : O). (output s).failed) is ∙ w.failed ∙ or-true before in
    let rest : Appends (output now).contents all.contents last.held =
    subst (λ (s : O). Appends (output s).contents all.contents last.held) (sym is) (appends-held (output last.sink).contents last.held) in
    inr (refl, failed, grew, (all, run, from, (last.held, rest)))
