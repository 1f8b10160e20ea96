-- Lemmas on the lines that a session takes up.
use Rattle.std.proofs.Common.{◌≡◌, ℕ, ◌+◌, ◌≤◌, ◌<◌, List, [], ◌∷◌, ◌++◌, Bool, true, false, length, get_or, take, drop, ◌-◌, Option, Some, None, refl, sym, ap, ◌∙◌, subst, append_assoc, append-nil, drop-drop, length-drop, length-append, take_all, arith}
use Rattle.std.specs.Prelude.{if◌then◌else◌}
use Rattle.std.proofs.lemmas.List.{take_rest, drop_more, drop-append-le, take-append-le}
use Rattle.click_router.specs.declared.check.Access.{Access}
use Rattle.click_router.specs.declared.check.Access.TheVariants as direction
use Rattle.click_control.specs.declared.command.Command.{Command}
use Rattle.click_control.specs.declared.command.Command.TheVariants as command
use Rattle.click_control.specs.declared.start.Start.{Start}
use Rattle.click_control.specs.declared.line.FirstLine.{FirstLine}
use Rattle.click_control.specs.Commands.{Reading, in_line, over, ParsedLine, blank, whole, announces, parse_line, is_last, after_end, after_line, text_command, commands_from, longest_line, listed, HasNoEnd}
use Rattle.click_control.specs.Taking.{Pending, to_come, Gives, GivesOne}
use Rattle.click_control.specs.kept.Lines.{Waits, IsPlaced, IsEnded, IsFirstLine, IsTaken, IsPartial, end_length, optional, reading_of}
use Rattle.click_control.proofs.StreamCommands.{commands_from-partial, commands_from-over, commands_from-line, payload_after_end, payload_waits}

-- ---- the content of the first bytes

-- the commands, once the meaning of the line is known
line_says : (bytes more : List ℕ) (n : ℕ) (s : ParsedLine) → IsEnded bytes n → s ≡ parse_line (take n bytes)
    → commands_from (in_line []) (bytes ++ more) ≡ listed s ++ commands_from (after_line s (get_or bytes n 0)) (drop (n + 1) bytes ++ more)
line_says bytes more n s ended is =
    commands_from-line bytes more n ended.within ended.short ended.no_end ended.end
    ∙ ap (λ t. listed t ++ commands_from (after_line t (get_or bytes n 0)) (drop (n + 1) bytes ++ more)) (sym is)

pub taken_blank : (bytes : List ℕ) (n : ℕ) (r : Reading) → IsEnded bytes n → blank ≡ parse_line (take n bytes) → r ≡ after_end (get_or bytes n 0)
    → IsTaken bytes None (n + 1) r
taken_blank bytes n r ended is at = record {
  some = omega arith;
  within = omega (arith, ended.within);
  gives = λ more. line_says bytes more n blank ended is ∙ ap (λ q. commands_from q (drop (n + 1) bytes ++ more)) (sym at);
  last = λ d e _. cc;
}

-- nothing comes after a last command
after_last_command : (c : Command) (e : ℕ) → is_last c ≡ true → after_line (whole c) e ≡ over
after_last_command c e h = rw h refl

pub taken_whole : (bytes : List ℕ) (n : ℕ) (c : Command) (r : Reading) → IsEnded bytes n → whole c ≡ parse_line (take n bytes)
    → r ≡ after_line (whole c) (get_or bytes n 0) → IsTaken bytes (Some c) (n + 1) r
taken_whole bytes n c r ended is at = record {
  some = omega arith;
  within = omega (arith, ended.within);
  gives = λ more. line_says bytes more n (whole c) ended is ∙ ap (λ q. c ∷ commands_from q (drop (n + 1) bytes ++ more)) (sym at);
  last = λ d e h. at ∙ after_last_command c (get_or bytes n 0) (let same : c ≡ d = cc in subst (λ (k : Command). is_last k ≡ true) (sym same) h);
}

pub taken_long : (bytes : List ℕ) → 0 < length bytes → ((more : List ℕ) → commands_from (in_line []) (bytes ++ more) ≡ command.LineTooLong ∷ [])
    → IsTaken bytes (Some command.LineTooLong) (length bytes) over
taken_long bytes some long = record {
  some = some;
  within = omega arith;
  gives = λ more. long more ∙ sym (ap (λ cs. command.LineTooLong ∷ cs) (commands_from-over (drop (length bytes) bytes ++ more)));
  last = λ d e h. refl;
}

text_is_not_last : (w : Access) (handler text : List ℕ) → is_last (text_command w handler text) ≡ false
text_is_not_last direction.Read handler text = refl
text_is_not_last direction.Write handler text = refl

-- the end of a line, and the bytes after it
ended_bytes : (bytes : List ℕ) (n : ℕ) → n < length bytes → drop n bytes ≡ get_or bytes n 0 ∷ drop (n + 1) bytes
ended_bytes bytes n q = drop_more bytes n 0 q

pub taken_payload : (bytes : List ℕ) (n : ℕ) (w : Access) (handler : List ℕ) (count begin : ℕ) → IsEnded bytes n → announces w handler count ≡ parse_line (take n bytes)
    → 0 < count → begin ≡ n + end_length (drop n bytes) → begin + count ≤ length bytes
    → IsTaken bytes (Some (text_command w handler (take count (drop begin bytes)))) (begin + count) (in_line [])
taken_payload bytes n w handler count begin ended is some at all =
    let e = get_or bytes n 0 in
    let rest = drop (n + 1) bytes in
    let split : drop n bytes ≡ e ∷ rest = ended_bytes bytes n ended.within in
    let len : ℕ = end_length (drop n bytes) in
    let len_is : len ≡ end_length (e ∷ rest) = ap end_length split in
    let after : drop begin bytes ≡ drop (end_length (e ∷ rest)) (e ∷ rest) =
    ap (λ k. drop k bytes) at ∙ sym (drop-drop len n bytes) ∙ ap (λ l. drop len l) split ∙ ap (λ k. drop k (e ∷ rest)) len_is in
    let room : end_length (e ∷ rest) + count ≤ length (e ∷ rest) = omega (arith, ap length split, length-drop n bytes, len_is, at, all) in
    record {
      some = omega (arith, some);
      within = all;
      gives = λ more.
          line_says bytes more n (announces w handler count) ended is
          ∙ payload_after_end w handler count e rest more some room
          ∙ ap (λ l. text_command w handler (take count l) ∷ commands_from (in_line []) (drop count l ++ more)) (sym after)
          ∙ ap (λ l. text_command w handler (take count (drop begin bytes)) ∷ commands_from (in_line []) (l ++ more)) (drop-drop count begin bytes);
      last = λ d f h.
          let same : text_command w handler (take count (drop begin bytes)) ≡ d = cc in
          let not_last : is_last d ≡ false = ap is_last (sym same) ∙ text_is_not_last w handler (take count (drop begin bytes)) in
          let bad : true ≡ false = sym h ∙ not_last in cc;
    }

pub partial_payload : (bytes : List ℕ) (n : ℕ) (w : Access) (handler : List ℕ) (count begin : ℕ) → IsEnded bytes n → announces w handler count ≡ parse_line (take n bytes)
    → begin ≡ n + end_length (drop n bytes) → length bytes < begin + count
    → IsPartial bytes n (begin + count)
partial_payload bytes n w handler count begin ended is at few =
    let e = get_or bytes n 0 in
    let rest = drop (n + 1) bytes in
    let split : drop n bytes ≡ e ∷ rest = ended_bytes bytes n ended.within in
    let len_is : end_length (drop n bytes) ≡ end_length (e ∷ rest) = ap end_length split in
    let waits : Waits (in_line []) bytes (begin + count) = λ more less.
    line_says bytes more n (announces w handler count) ended is
    ∙ payload_waits w handler count e rest more (omega (arith, less, ap length split, length-drop n bytes, len_is, at, ended.within)) in
    record {
      within = omega (arith, ended.within);
      no_end = ended.no_end;
      none = ap (λ l. commands_from (in_line []) l) (sym (append-nil bytes)) ∙ waits [] (omega (arith, few));
      waits = waits;
    }

pub partial_line : (bytes : List ℕ) → HasNoEnd bytes → length bytes ≤ longest_line → IsPartial bytes (length bytes) 0
partial_line bytes none short = record {
  within = omega arith;
  no_end = rw (take_all (length bytes) bytes (omega arith)) none;
  none = commands_from-partial bytes none short;
  waits = λ more few. absurd (omega (arith, few));
}

-- ---- the commands that a session gives for these bytes

-- A line begins after n bytes, which are skipped.
abbrev pub Skips : Start → List ℕ → ℕ → Type 0
Skips start bytes n = (n ≤ length bytes) × ((more : List ℕ) → commands_from (reading_of start) (bytes ++ more) ≡ commands_from (in_line []) (drop n bytes ++ more))

abbrev pub pending : Reading → List ℕ → Pending
pending r bytes = record { from = r; bytes = bytes }

-- what holds of a slice of the buffer holds of the buffer's items
pub skips_from : (d items : List ℕ) (start : Start) (at n : ℕ) → d ≡ items → Skips start (take (length d - at) (drop at d)) n → Skips start (drop at items) n
skips_from d items start at n is h = subst (λ (l : List ℕ). Skips start (drop at l) n) is (subst (λ (l : List ℕ). Skips start l n) (take_rest d at) h)

pub found_from : (d items : List ℕ) (at : ℕ) (f : FirstLine) → d ≡ items → IsFirstLine (take (length d - at) (drop at d)) f → IsFirstLine (drop at items) f
found_from d items at f is h = subst (λ (l : List ℕ). IsFirstLine (drop at l) f) is (subst (λ (l : List ℕ). IsFirstLine l f) (take_rest d at) h)

-- a session gives the commands of the next line's bytes
from_line : (items : List ℕ) (start : Start) (at n : ℕ) (old : Pending) → pending (reading_of start) (drop at items) ≡ old → Skips start (drop at items) n
    → (more : List ℕ) → to_come old more ≡ commands_from (in_line []) (drop (at + n) items ++ more)
from_line items start at n old view skips more =
    subst (λ (s : Pending). to_come s more ≡ commands_from (in_line []) (drop (at + n) items ++ more)) view
    (skips.1 more ∙ ap (λ l. commands_from (in_line []) (l ++ more)) (drop-drop n at items))

old_length : (items : List ℕ) (start : Start) (at : ℕ) (old : Pending) → pending (reading_of start) (drop at items) ≡ old → length old.bytes ≡ length (drop at items)
old_length items start at old view = sym (ap (λ s. length s.bytes) view)

pub gives_partial : (items : List ℕ) (start : Start) (at n searched wanted : ℕ) (old : Pending) → pending (reading_of start) (drop at items) ≡ old → Skips start (drop at items) n
    → IsPartial (drop (at + n) items) searched wanted
    → Gives old (pending (in_line []) (drop (at + n) items)) [] × (to_come (pending (in_line []) (drop (at + n) items)) [] ≡ []) × (length (drop (at + n) items) ≤ length old.bytes)
gives_partial items start at n searched wanted old view skips partial = (
  from_line items start at n old view skips,
  ap (λ l. commands_from (in_line []) l) (append-nil (drop (at + n) items)) ∙ partial.none,
  omega (arith, old_length items start at old view, length-drop at items, length-drop (at + n) items),
)

-- a line that was taken up, with its command c
gives_taken : (items : List ℕ) (start : Start) (at n len : ℕ) (c : Option Command) (r : Reading) (old : Pending) → pending (reading_of start) (drop at items) ≡ old → Skips start (drop at items) n
    → IsTaken (drop (at + n) items) c len r → Gives old (pending r (drop (at + n + len) items)) (optional c)
gives_taken items start at n len c r old view skips taken more =
    from_line items start at n old view skips more ∙ taken.gives more
    ∙ ap (λ (l : List ℕ). optional c ++ commands_from r (l ++ more)) (drop-drop len (at + n) items)

taken_fewer : (items : List ℕ) (start : Start) (at n len : ℕ) (c : Option Command) (r : Reading) (old : Pending) → pending (reading_of start) (drop at items) ≡ old
    → IsTaken (drop (at + n) items) c len r → length (drop (at + n + len) items) < length old.bytes
taken_fewer items start at n len c r old view taken =
    omega (arith, old_length items start at old view, taken.some, taken.within, length-drop at items, length-drop (at + n) items, length-drop (at + n + len) items)

pub gives_blank : (items : List ℕ) (start : Start) (at n len : ℕ) (r : Reading) (old : Pending) → pending (reading_of start) (drop at items) ≡ old → Skips start (drop at items) n
    → IsTaken (drop (at + n) items) None len r
    → Gives old (pending r (drop (at + n + len) items)) [] × (length (drop (at + n + len) items) < length old.bytes)
gives_blank items start at n len r old view skips taken =
    (gives_taken items start at n len None r old view skips taken, taken_fewer items start at n len None r old view taken)

pub gives_command : (items : List ℕ) (start : Start) (at n len : ℕ) (c : Command) (r : Reading) (old : Pending) → pending (reading_of start) (drop at items) ≡ old → Skips start (drop at items) n
    → IsTaken (drop (at + n) items) (Some c) len r
    → GivesOne old (pending r (drop (at + n + len) items)) c
gives_command items start at n len c r old view skips taken = record {
  gives = gives_taken items start at n len (Some c) r old view skips taken;
  fewer = taken_fewer items start at n len (Some c) r old view taken;
  last = λ h more. ap (λ q. commands_from q (drop (at + n + len) items ++ more)) (taken.last c refl h) ∙ commands_from-over (drop (at + n + len) items ++ more);
}

-- ---- the position of a session in its buffer

waits_more : (r : Reading) (bytes piece : List ℕ) (wanted : ℕ) → Waits r bytes wanted → Waits r (bytes ++ piece) wanted
waits_more r bytes piece wanted waits more few =
    ap (λ l. commands_from r l) (append_assoc bytes piece more)
    ∙ waits (piece ++ more) (omega (arith, few, length-append bytes piece, length-append piece more))

placed_more : (at searched wanted : ℕ) (r : Reading) (items piece : List ℕ) → IsPlaced at searched wanted r items → IsPlaced at searched wanted r (items ++ piece)
placed_more at searched wanted r items piece placed =
    let rest : drop at (items ++ piece) ≡ drop at items ++ piece = drop-append-le at items piece (omega (arith, placed.within)) in
    record {
      within = omega (arith, placed.within, length-append items piece);
      kept = omega (arith, placed.kept, length-append items piece);
      no_end = rw (rest, take-append-le searched (drop at items) piece (omega (arith, placed.within, length-drop at items))) placed.no_end;
      waits = rw rest (waits_more r (drop at items) piece wanted placed.waits);
    }

-- a piece was appended, or the session ran out of memory
pub placed_fed : (taken : Bool) (at searched wanted : ℕ) (r : Reading) (items piece next : List ℕ) → next ≡ (if taken then items ++ piece else items)
    → IsPlaced at searched wanted r items → IsPlaced at searched wanted r next
placed_fed true at searched wanted r items piece next is placed = rw is (placed_more at searched wanted r items piece placed)
placed_fed false at searched wanted r items piece next is placed = rw is placed
