-- Lemmas on a session in progress.
use Rattle.std.proofs.Common.{◌≡◌, ℕ, ◌+◌, ◌≤◌, ◌<◌, List, [], ◌∷◌, ◌++◌, length, Bool, true, false, ◌||◌, Option, None, Some, Result, Ok, Err, refl, sym, ap, subst, ◌∙◌, inl, inr, append_assoc, append-nil, add-zero, add_assoc, length-append, arith}
use Rattle.std.specs.Io.KnownBytes.{Keeps, Consumes}
use Rattle.std.proofs.KnownBytes.{Consumes-nil, Consumes-trans, Appends-trans}
use Rattle.std.proofs.lemmas.List.Elements.{All-nil, All-push}
use Rattle.click_router.specs.declared.call.Call.{Call}
use Rattle.click_router.specs.declared.call.Reply.{Reply}
use Rattle.click_control.specs.declared.port.AskFault.{AskFault}
use Rattle.click_control.specs.declared.command.Command.{Command}
use Rattle.click_control.specs.declared.command.Command.TheVariants as command
use Rattle.click_control.specs.declared.command.Answer.{Answer}
use Rattle.click_control.specs.declared.serving.Ended.{Ended}
use Rattle.click_control.specs.declared.serving.Ended.TheVariants as ended
use Rattle.click_control.specs.declared.serving.ServeFault.{ServeFault}
use Rattle.click_control.specs.declared.serving.ServeFault.TheVariants as fault
use Rattle.click_control.specs.Commands.{commands, in_line, is_last}
use Rattle.click_control.specs.Taking.{Pending, fresh, to_come, Gives, GivesOne}
use Rattle.click_streams.specs.Peers.{Input, Output, HasRead, HasWritten}
use Rattle.click_control.specs.ReplyText.{greeting, text_of}
use Rattle.click_control.specs.Serving.{Answered, Asked, nothing, then_one, call_of, replies, most_reads, Course, IsWhole, IsFront, EndsWith, GoesOn, Ends, Serves, Turned, not_yet, once_more, WentThrough, NoneRefused, ServesTurns}
use Rattle.click_control.specs.kept.Going.{Written, TakesIn, ending_of, SoFar, Goes}
use Rattle.click_streams.proofs.Peers.{or-false}
use Rattle.click_control.proofs.StreamCommands.{commands_from-nil, to_come-fed}

pub commands-nil : commands [] ≡ []
commands-nil = commands_from-nil (in_line [])

-- whether a fault is a failed write
abbrev is_failed : ServeFault → Bool
is_failed fault.WriteFailed = true
is_failed _ = false

-- ---- the bytes that were read and written between moments

Consumes-none : (a b : Option (List ℕ)) → Keeps a b → Consumes a b []
Consumes-none None b h = tt
Consumes-none (Some x) None h = absurd h
Consumes-none (Some x) (Some y) h = sym h

-- a read that failed
pub HasRead-failed : (a b : Input) → Keeps a.remaining b.remaining → b.reads ≡ a.reads → b.failed ≡ (a.failed || true) → HasRead a b [] 0 true
HasRead-failed a b kept same failed = record {
  consumed = Consumes-none a.remaining b.remaining kept;
  counted = same ∙ sym (add-zero a.reads);
  failed = failed;
}

pub HasRead-none : (a : Input) → HasRead a a [] 0 false
HasRead-none a = record {
  consumed = Consumes-nil a.remaining;
  counted = sym (add-zero a.reads);
  failed = sym (or-false a.failed);
}

pub HasRead-trans : (a b c : Input) (xs ys : List ℕ) (m n : ℕ) (failed : Bool) → HasRead a b xs m false → HasRead b c ys n failed
    → HasRead a c (xs ++ ys) (m + n) failed
HasRead-trans a b c xs ys m n failed p q = record {
  consumed = Consumes-trans a.remaining b.remaining c.remaining xs ys p.consumed q.consumed;
  counted = q.counted ∙ ap (λ k. k + n) p.counted ∙ add_assoc a.reads m n;
  failed = q.failed ∙ ap (λ k. k || failed) (p.failed ∙ or-false a.failed);
}

pub HasWritten-trans : (a b c : Output) (xs ys : List ℕ) (failed : Bool) → HasWritten a b xs false → HasWritten b c ys failed
    → HasWritten a c (xs ++ ys) failed
HasWritten-trans a b c xs ys failed p q = record {
  appended = Appends-trans a.contents b.contents c.contents xs ys p.appended q.appended;
  failed = q.failed ∙ ap (λ k. k || failed) (p.failed ∙ or-false a.failed);
}

-- ---- one more command and its answer

replies-push : (cs : List Command) (answers : List Answer) (c : Command) (a : Answer) → length cs ≡ length answers
    → replies (cs ++ c ∷ []) (answers ++ a ∷ []) ≡ replies cs answers ++ text_of c a
replies-push [] [] c a e = append-nil (text_of c a)
replies-push [] (b ∷ answers) c a e = absurd (omega arith)
replies-push (d ∷ cs) [] c a e = absurd (omega arith)
replies-push (d ∷ cs) (b ∷ answers) c a e =
    ap (λ t. text_of d b ++ t) (replies-push cs answers c a (omega arith)) ∙ sym (append_assoc (text_of d b) (replies cs answers) (text_of c a))

-- the replies to the first commands are a prefix of the replies to all
replies-front : (cs ds : List Command) (answers : List Answer) → (rest : List ℕ) × (replies (cs ++ ds) answers ≡ replies cs answers ++ rest)
replies-front [] ds answers = (replies ds answers, refl)
replies-front (c ∷ cs) ds [] = ([], refl)
replies-front (c ∷ cs) ds (a ∷ answers) =
    let more = replies-front cs ds answers in
    (more.0, ap (λ t. text_of c a ++ t) more.1 ∙ sym (append_assoc (text_of c a) (replies cs answers) more.0))

-- one more answer does not change the replies to commands that have their answers
replies-more : (cs : List Command) (answers more : List Answer) → length cs ≤ length answers → replies cs (answers ++ more) ≡ replies cs answers
replies-more [] answers more h = refl
replies-more (c ∷ cs) [] more h = absurd (omega arith)
replies-more (c ∷ cs) (a ∷ answers) more h = ap (λ t. text_of c a ++ t) (replies-more cs answers more (omega arith))

read-push : (taken : List Command) (c : Command) (all rest more : List Command) → all ≡ taken ++ rest → rest ≡ c ∷ more → all ≡ (taken ++ c ∷ []) ++ more
read-push taken c all rest more e f = e ∙ ap (λ l. taken ++ l) f ∙ sym (append_assoc taken (c ∷ []) more)

-- two equal lists that each have a last element also have equal rests
same_front : (xs ys : List Command) (x y : Command) → xs ++ x ∷ [] ≡ ys ++ y ∷ [] → xs ≡ ys
same_front [] [] x y e = refl
same_front [] (z ∷ ys) x y e = absurd (omega (arith, ap length e, length-append ys (y ∷ [])))
same_front (z ∷ xs) [] x y e = absurd (omega (arith, ap length e, length-append xs (x ∷ [])))
same_front (z ∷ xs) (w ∷ ys) x y e =
    let head : z ≡ w = cc in
    let tail : xs ++ x ∷ [] ≡ ys ++ y ∷ [] = cc in
    ap (λ k. k ∷ xs) head ∙ ap (λ l. w ∷ l) (same_front xs ys x y tail)

-- if all replies are written, the replies to all commands except the last are
written-whole : (taken : List Command) (answers : List Answer) (output : List ℕ) → output ≡ greeting ++ replies taken answers
    → (earlier : List Command) (last : Command) → taken ≡ earlier ++ last ∷ [] → (rest : List ℕ) × (output ≡ greeting ++ replies earlier answers ++ rest)
written-whole taken answers output e earlier last is =
    let more = replies-front earlier (last ∷ []) answers in
    (more.0, e ∙ ap (λ l. greeting ++ replies l answers) is ∙ ap (λ l. greeting ++ l) more.1 ∙ sym (append_assoc greeting (replies earlier answers) more.0))

-- if all replies are written, and then a part of the reply to one more command, the replies to all
-- commands except this one are
written-part : (taken : List Command) (c : Command) (answers : List Answer) (a : Answer) (output front : List ℕ) → length taken ≡ length answers
    → output ≡ greeting ++ replies taken answers
    → (earlier : List Command) (last : Command) → taken ++ c ∷ [] ≡ earlier ++ last ∷ []
    → (rest : List ℕ) × (output ++ front ≡ greeting ++ replies earlier (answers ++ a ∷ []) ++ rest)
written-part taken c answers a output front len e earlier last is = (
  front,
  ap (λ l. l ++ front) (e ∙ ap (λ l. greeting ++ l)
      (sym (replies-more taken answers (a ∷ []) (omega arith)) ∙ ap (λ l. replies l (answers ++ a ∷ [])) (same_front taken earlier c last is))),
)

module _ {P : Type 0} (asks : P → Call → Result Reply AskFault → P → Type 0) (readonly : Bool) where
  Asked-length : (p : P) (cs : List Command) (answers : List Answer) (q : P) → Asked asks readonly p cs answers q → length cs ≡ length answers
  Asked-length _ _ _ _ (nothing p) = refl
  Asked-length _ _ _ _ (then_one p mid q cs answers c a before step) =
      omega (arith, Asked-length p cs answers mid before, length-append cs (c ∷ []), length-append answers (a ∷ []))

  whole-push : (p q : P) (taken : List Command) (answers : List Answer) (c : Command) (a : Answer) (output : List ℕ) → Asked asks readonly p taken answers q
      → output ≡ greeting ++ replies taken answers → output ++ text_of c a ≡ greeting ++ replies (taken ++ c ∷ []) (answers ++ a ∷ [])
  whole-push p q taken answers c a output h e =
      ap (λ l. l ++ text_of c a) e ∙ append_assoc greeting (replies taken answers) (text_of c a)
      ∙ ap (λ l. greeting ++ l) (sym (replies-push taken answers c a (Asked-length p taken answers q h)))

module _ {P : Type 0} (asks : P → Call → Result Reply AskFault → P → Type 0) {T : Type 0} (turn : T → ℕ → Bool → T → Type 0) (done : T → ℕ → T → Type 0)
    (readonly : Bool) (most : ℕ) where
  -- the turns went through all commands taken up
  turned-all : (old now : P) (was is : T) (had left : Input) (held holds : Output) (s : Pending) (n reads : ℕ)
      → (h : SoFar asks turn done readonly most old now was is had left held holds s n reads) → Turned turn done was (length h.taken) is
  turned-all old now was is had left held holds s n reads h = subst (λ (k : ℕ). Turned turn done was k is) (sym h.counted) h.turned

  -- the commands that come after a line
  pub SoFar-line : (old now : P) (was is : T) (had left : Input) (held holds : Output) (s t : Pending) (n reads : ℕ)
      → SoFar asks turn done readonly most old now was is had left held holds s n reads → Gives s t []
      → SoFar asks turn done readonly most old now was is had left held holds t n reads
  SoFar-line old now was is had left held holds s t n reads h gives = record {
    input = h.input;
    read = h.read;
    many = h.many;
    within = h.within;
    taken = h.taken;
    goes_on = h.goes_on;
    spelled = λ more. h.spelled more ∙ ap (λ l. h.taken ++ l) (gives more);
    answers = h.answers;
    asked = h.asked;
    output = h.output;
    written = h.written;
    whole = h.whole;
    counted = h.counted;
    turned = h.turned;
  }

  -- the commands that were read are those taken up and those still to come
  all-read : (old now : P) (was is : T) (had left : Input) (held holds : Output) (s : Pending) (n reads : ℕ)
      → (h : SoFar asks turn done readonly most old now was is had left held holds s n reads) → commands h.input ≡ h.taken ++ to_come s []
  all-read old now was is had left held holds s n reads h = ap commands (sym (append-nil h.input)) ∙ h.spelled []

  all-taken : (old now : P) (was is : T) (had left : Input) (held holds : Output) (s : Pending) (n reads : ℕ)
      → (h : SoFar asks turn done readonly most old now was is had left held holds s n reads) → to_come s [] ≡ [] → commands h.input ≡ h.taken ++ []
  all-taken old now was is had left held holds s n reads h none =
      all-read old now was is had left held holds s n reads h ∙ ap (λ l. h.taken ++ l) none

  -- some bytes were read, and the session ran out of memory
  Serves-short : (old now : P) (was is : T) (had left then : Input) (held holds : Output) (s : Pending) (n reads more : ℕ) (piece : List ℕ)
      → SoFar asks turn done readonly most old now was is had left held holds s n reads → HasRead left then piece more false → reads + more ≤ most
      → ServesTurns asks turn done readonly most old now was is had then held holds (Err fault.NoMemory)
  Serves-short old now was is had left then held holds s n reads more piece h read within = record {
    course = record {
      input = h.input ++ piece;
      reads = reads + more;
      read_failed = false;
      taken = h.taken;
      more = to_come s piece;
      answers = h.answers;
      output = h.output;
      write_failed = false;
    };
    read = HasRead-trans had left then h.input piece reads more false h.read read;
    within = within;
    spelled = h.spelled piece;
    asked = h.asked;
    written = h.written;
    ends = (
      record {
        front = ([], sym h.whole ∙ sym (append-nil h.output));
        all_but_last = written-whole h.taken h.answers h.output h.whole;
      },
      refl,
      refl,
    );
    turned = inl (turned-all old now was is had left held holds s n reads h, inr h.whole);
  }

  -- nothing was done, and the session ran out of memory
  pub Serves-no_memory : (old now : P) (was is : T) (had left : Input) (held holds : Output) (s : Pending) (n reads : ℕ)
      → SoFar asks turn done readonly most old now was is had left held holds s n reads
      → ServesTurns asks turn done readonly most old now was is had left held holds (Err fault.NoMemory)
  Serves-no_memory old now was is had left held holds s n reads h =
      Serves-short old now was is had left left held holds s n reads 0 [] h (HasRead-none left) (omega (arith, h.within))

  -- the turn of the next command was refused
  pub Serves-held : (old now : P) (was is refused : T) (had left : Input) (held holds : Output) (s t : Pending) (n reads : ℕ) (c : Command)
      → SoFar asks turn done readonly most old now was is had left held holds s n reads → GivesOne s t c → turn is (n + 1) false refused
      → ServesTurns asks turn done readonly most old now was refused had left held holds (Ok ended.GateClosed)
  Serves-held old now was is refused had left held holds s t n reads c h one step = record {
    course = record {
      input = h.input;
      reads = reads;
      read_failed = false;
      taken = h.taken;
      more = c ∷ to_come t [];
      answers = h.answers;
      output = h.output;
      write_failed = false;
    };
    read = h.read;
    within = h.within;
    spelled = all-read old now was is had left held holds s n reads h ∙ ap (λ l. h.taken ++ l) (one.gives []);
    asked = h.asked;
    written = h.written;
    ends = (((c, to_come t [], refl), h.whole), h.goes_on, refl, refl);
    turned = (is, turned-all old now was is had left held holds s n reads h, subst (λ (k : ℕ). turn is (k + 1) false refused) (sym h.counted) step);
  }

  -- a prefix of a reply was written after all earlier replies
  part-front : (old now : P) (was is : T) (had left : Input) (held holds : Output) (s : Pending) (n reads : ℕ) (c : Command) (a : Answer) (more : List Command)
      (failed : Bool) (front rest : List ℕ) → (h : SoFar asks turn done readonly most old now was is had left held holds s n reads) → text_of c a ≡ front ++ rest
      → IsFront (record {
        input = h.input;
        reads = reads;
        read_failed = false;
        taken = h.taken ++ c ∷ [];
        more = more;
        answers = h.answers ++ a ∷ [];
        output = h.output ++ front;
        write_failed = failed;
      })
  part-front old now was is had left held holds s n reads c a more failed front rest h text = record {
    front = (
      rest,
      sym (whole-push asks readonly old now h.taken h.answers c a h.output h.asked h.whole) ∙ ap (λ l. h.output ++ l) text
          ∙ sym (append_assoc h.output front rest),
    );
    all_but_last = written-part h.taken c h.answers a h.output front (Asked-length asks readonly old h.taken h.answers now h.asked) h.whole;
  }

  -- the count grows by one
  counted-push : (taken : List Command) (c : Command) (n : ℕ) → length taken ≡ n → length (taken ++ c ∷ []) ≡ n + 1
  counted-push taken c n e = omega (arith, e, length-append taken (c ∷ []))

  -- a reply that was not written in full
  pub Serves-reply : (f : ServeFault) (old now next : P) (was is given : T) (had left : Input) (held holds then : Output) (s t : Pending) (n reads : ℕ) (c : Command)
      (a : Answer)
      → SoFar asks turn done readonly most old now was is had left held holds s n reads → GivesOne s t c → turn is (n + 1) true given
      → Answered asks now (call_of readonly c) a next → Written {T = Unit {0}} (Err f) holds then (text_of c a)
      → ServesTurns asks turn done readonly most old next was given had left held then (Err f)
  Serves-reply fault.ReadFailed old now next was is given had left held holds then s t n reads c a h one step answered w = absurd w
  Serves-reply f old now next was is given had left held holds then s t n reads c a h one step answered w = record {
    course = record {
      input = h.input;
      reads = reads;
      read_failed = false;
      taken = h.taken ++ c ∷ [];
      more = to_come t [];
      answers = h.answers ++ a ∷ [];
      output = h.output ++ w.0;
      write_failed = is_failed f;
    };
    read = h.read;
    within = h.within;
    spelled = read-push h.taken c (commands h.input) (to_come s []) (to_come t []) (all-read old now was is had left held holds s n reads h) (one.gives []);
    asked = then_one old now next h.taken h.answers c a h.asked answered;
    written = HasWritten-trans held holds then h.output w.0 (is_failed f) h.written w.3;
    ends = (part-front old now was is had left held holds s n reads c a (to_come t []) (is_failed f) w.0 w.1 h w.2, refl, refl);
    turned = inr (n, is, counted-push h.taken c n h.counted, h.turned, step);
  }

  -- a command that does not end the session, answered in full
  SoFar-replied : (old now next : P) (was is given told : T) (had left : Input) (held holds then : Output) (s t : Pending) (n reads : ℕ) (c : Command) (a : Answer)
      → SoFar asks turn done readonly most old now was is had left held holds s n reads → GivesOne s t c → turn is (n + 1) true given → done given (n + 1) told
      → Answered asks now (call_of readonly c) a next → HasWritten holds then (text_of c a) false → is_last c ≡ false
      → SoFar asks turn done readonly most old next was told had left held then t (n + 1) reads
  SoFar-replied old now next was is given told had left held holds then s t n reads c a h one step after answered text on = record {
    input = h.input;
    read = h.read;
    many = h.many;
    within = h.within;
    taken = h.taken ++ c ∷ [];
    goes_on = All-push (λ d. is_last d ≡ false) h.taken c h.goes_on on;
    spelled = λ more. read-push h.taken c (commands (h.input ++ more)) (to_come s more) (to_come t more) (h.spelled more) (one.gives more);
    answers = h.answers ++ a ∷ [];
    asked = then_one old now next h.taken h.answers c a h.asked answered;
    output = h.output ++ text_of c a;
    written = HasWritten-trans held holds then h.output (text_of c a) false h.written text;
    whole = whole-push asks readonly old now h.taken h.answers c a h.output h.asked h.whole;
    counted = counted-push h.taken c n h.counted;
    turned = once_more was is given told n h.turned step after;
  }

  -- a command that ends the session, answered in full
  Serves-last : (e : Ended) (old now next : P) (was is given told : T) (had left : Input) (held holds then : Output) (s t : Pending) (n reads : ℕ) (c : Command) (a : Answer)
      → SoFar asks turn done readonly most old now was is had left held holds s n reads → GivesOne s t c → turn is (n + 1) true given → done given (n + 1) told
      → Answered asks now (call_of readonly c) a next → HasWritten holds then (text_of c a) false → is_last c ≡ true
      → ((course : Course) → IsWhole course → EndsWith course.taken c → course.read_failed ≡ false → course.write_failed ≡ false → Ends most (Ok e) course left)
      → ((course : Course) → Turned turn done was (length course.taken) told → WentThrough turn done was told (Ok e) course)
      → ServesTurns asks turn done readonly most old next was told had left held then (Ok e)
  Serves-last e old now next was is given told had left held holds then s t n reads c a h one step after answered text last ends went = record {
    course = record {
      input = h.input;
      reads = reads;
      read_failed = false;
      taken = h.taken ++ c ∷ [];
      more = [];
      answers = h.answers ++ a ∷ [];
      output = h.output ++ text_of c a;
      write_failed = false;
    };
    read = h.read;
    within = h.within;
    spelled = read-push h.taken c (commands h.input) (to_come s []) [] (all-read old now was is had left held holds s n reads h)
        (one.gives [] ∙ ap (λ l. c ∷ l) (one.last last []));
    asked = then_one old now next h.taken h.answers c a h.asked answered;
    written = HasWritten-trans held holds then h.output (text_of c a) false h.written text;
    ends = ends _ (refl, whole-push asks readonly old now h.taken h.answers c a h.output h.asked h.whole) (h.taken, refl) refl refl;
    turned = went _ (subst (λ (k : ℕ). Turned turn done was k told) (sym (counted-push h.taken c n h.counted))
        (once_more was is given told n h.turned step after));
  }

  -- a command whose reply was written in full
  pub Goes-replied : (c : Command) (old now next : P) (was is given told : T) (had left : Input) (held holds then : Output) (s t : Pending) (n reads : ℕ) (a : Answer)
      → SoFar asks turn done readonly most old now was is had left held holds s n reads → GivesOne s t c → turn is (n + 1) true given → done given (n + 1) told
      → Answered asks now (call_of readonly c) a next → HasWritten holds then (text_of c a) false
      → Goes asks turn done readonly most old next was told had left held then t (n + 1) reads (Ok (ending_of c))
  Goes-replied command.Quit old now next was is given told had left held holds then s t n reads a h one step after answered w =
      Serves-last ended.Quit old now next was is given told had left held holds then s t n reads command.Quit a h one step after answered w refl
      (λ course whole last read write. (whole, last, read, write)) (λ course all. all)
  Goes-replied command.LineTooLong old now next was is given told had left held holds then s t n reads a h one step after answered w =
      Serves-last ended.TooLong old now next was is given told had left held holds then s t n reads command.LineTooLong a h one step after answered w refl
      (λ course whole last read write. (whole, inl last, read, write)) (λ course all. all)
  Goes-replied command.DataTooLong old now next was is given told had left held holds then s t n reads a h one step after answered w =
      Serves-last ended.TooLong old now next was is given told had left held holds then s t n reads command.DataTooLong a h one step after answered w refl
      (λ course whole last read write. (whole, inr last, read, write)) (λ course all. all)
  Goes-replied c old now next was is given told had left held holds then s t n reads a h one step after answered w =
      SoFar-replied old now next was is given told had left held holds then s t n reads c a h one step after answered w refl

  -- ---- the greeting

  pub SoFar-greeted : (p : P) (t : T) (had : Input) (held holds : Output) → HasWritten held holds greeting false
      → SoFar asks turn done readonly most p p t t had had held holds fresh 0 0
  SoFar-greeted p t had held holds text = record {
    input = [];
    read = HasRead-none had;
    many = omega arith;
    within = omega arith;
    taken = [];
    goes_on = All-nil (λ c. is_last c ≡ false);
    spelled = λ more. refl;
    answers = [];
    asked = nothing p;
    output = greeting;
    written = text;
    whole = sym (append-nil greeting);
    counted = refl;
    turned = not_yet t;
  }

  none-taken : (output : List ℕ) (earlier : List Command) (last : Command) → [] ≡ earlier ++ last ∷ []
      → (rest : List ℕ) × (output ≡ greeting ++ replies earlier [] ++ rest)
  none-taken output earlier last e = absurd (omega (arith, ap length e, length-append earlier (last ∷ [])))

  pub Serves-greeting : (f : ServeFault) (p : P) (t : T) (had : Input) (held holds : Output) → Written {T = Unit {0}} (Err f) held holds greeting
      → ServesTurns asks turn done readonly most p p t t had had held holds (Err f)
  Serves-greeting fault.ReadFailed p t had held holds w = absurd w
  Serves-greeting f p t had held holds w = record {
    course = record {
      input = [];
      reads = 0;
      read_failed = false;
      taken = [];
      more = [];
      answers = [];
      output = w.0;
      write_failed = is_failed f;
    };
    read = HasRead-none had;
    within = omega arith;
    spelled = commands-nil;
    asked = nothing p;
    written = w.3;
    ends = (
      record {
        front = (w.1, append-nil greeting ∙ w.2);
        all_but_last = none-taken w.0;
      },
      refl,
      refl,
    );
    turned = inl (not_yet t, inl refl);
  }

  -- ---- a read

  pub SoFar-took : (old now : P) (was is : T) (had left then : Input) (held holds : Output) (s t : Pending) (n reads : ℕ)
      → SoFar asks turn done readonly most old now was is had left held holds s n reads → reads < most → TakesIn left then s t (Ok true)
      → SoFar asks turn done readonly most old now was is had then held holds t n (reads + 1)
  SoFar-took old now was is had left then held holds s t n reads h room took =
      let piece = took.0 in
      record {
        input = h.input ++ piece;
        read = HasRead-trans had left then h.input piece reads 1 false h.read took.2;
        many = omega (arith, h.many, took.1, length-append h.input piece);
        within = omega (arith, room);
        taken = h.taken;
        goes_on = h.goes_on;
        spelled = λ more. ap commands (append_assoc h.input piece more) ∙ h.spelled (piece ++ more)
            ∙ ap (λ cs. h.taken ++ cs) (sym (to_come-fed s piece more)) ∙ ap (λ q. h.taken ++ to_come q more) (sym took.3);
        answers = h.answers;
        asked = h.asked;
        output = h.output;
        written = h.written;
        whole = h.whole;
        counted = h.counted;
        turned = h.turned;
      }

  -- all commands that were read are answered, and `more` further reads returned no byte
  Serves-whole : (result : Result Ended ServeFault) (old now : P) (was is : T) (had left then : Input) (held holds : Output) (s : Pending) (n reads more : ℕ) (failed : Bool)
      → (h : SoFar asks turn done readonly most old now was is had left held holds s n reads) → to_come s [] ≡ []
      → HasRead left then [] more failed → reads + more ≤ most
      → ((course : Course) → IsWhole course → GoesOn course.taken → course.input ≡ h.input → course.reads ≡ reads + more → course.read_failed ≡ failed → course.write_failed ≡ false
      → Ends most result course then)
      → ((course : Course) → Turned turn done was (length course.taken) is → WentThrough turn done was is result course)
      → ServesTurns asks turn done readonly most old now was is had then held holds result
  Serves-whole result old now was is had left then held holds s n reads more failed h none read within ends went =
      let course : Course = record {
        input = h.input ++ [];
        reads = reads + more;
        read_failed = failed;
        taken = h.taken;
        more = [];
        answers = h.answers;
        output = h.output;
        write_failed = false;
      } in
      record {
        course = course;
        read = HasRead-trans had left then h.input [] reads more failed h.read read;
        within = within;
        spelled = ap commands (append-nil h.input) ∙ all-taken old now was is had left held holds s n reads h none;
        asked = h.asked;
        written = h.written;
        ends = ends course (refl, h.whole) h.goes_on (append-nil h.input) refl refl refl;
        turned = went course (turned-all old now was is had left held holds s n reads h);
      }

  pub Serves-end : (old now : P) (was is : T) (had left then : Input) (held holds : Output) (s t : Pending) (n reads : ℕ)
      → SoFar asks turn done readonly most old now was is had left held holds s n reads → to_come s [] ≡ [] → reads < most → TakesIn left then s t (Ok false)
      → ServesTurns asks turn done readonly most old now was is had then held holds (Ok ended.EndOfInput)
  Serves-end old now was is had left then held holds s t n reads h none room took =
      Serves-whole (Ok ended.EndOfInput) old now was is had left then held holds s n reads 1 false h none took.0 (omega (arith, room))
      (λ course whole on input so_many read write. (whole, on, took.1, read, write)) (λ course all. all)

  pub Serves-read : (f : ServeFault) (old now : P) (was is : T) (had left then : Input) (held holds : Output) (s t : Pending) (n reads : ℕ)
      → SoFar asks turn done readonly most old now was is had left held holds s n reads → to_come s [] ≡ [] → reads < most → TakesIn left then s t (Err f)
      → ServesTurns asks turn done readonly most old now was is had then held holds (Err f)
  Serves-read fault.ReadFailed old now was is had left then held holds s t n reads h none room took =
      Serves-whole (Err fault.ReadFailed) old now was is had left then held holds s n reads 0 true h none took (omega (arith, room))
      (λ course whole on input so_many read write. (whole, on, inl (read, omega (arith, so_many, room)), write)) (λ course all. all)
  Serves-read fault.NoMemory old now was is had left then held holds s t n reads h none room took =
      Serves-short old now was is had left then held holds s n reads 1 took.0 h took.1 (omega (arith, room))
  Serves-read fault.WriteFailed old now was is had left then held holds s t n reads h none room took = absurd took

  -- the maximum number of reads was made
  pub Serves-spent : (old now : P) (was is : T) (had left : Input) (held holds : Output) (s : Pending) (n reads : ℕ)
      → SoFar asks turn done readonly most old now was is had left held holds s n reads → to_come s [] ≡ [] → most ≤ reads
      → ServesTurns asks turn done readonly most old now was is had left held holds (Err fault.ReadFailed)
  Serves-spent old now was is had left held holds s n reads h none spent =
      Serves-whole (Err fault.ReadFailed) old now was is had left left held holds s n reads 0 false h none (HasRead-none left) (omega (arith, h.within))
      (λ course whole on input so_many read write.
      (whole, on, inr (read, omega (arith, so_many, spent, h.within), omega (arith, ap length input, spent, h.many)), write))
      (λ course all. all)

-- ---- turns that are all given

given-none : {T : Type 0} (turn : T → ℕ → Bool → T → Type 0) (done : T → ℕ → T → Type 0) → ((t u : T) (n : ℕ) → turn t n false u → ⊥)
    → (was is : T) (result : Result Ended ServeFault) (course : Course) → WentThrough turn done was is result course → NoneRefused result course
given-none turn done never was is (Ok ended.GateClosed) course w = never w.0 is (length course.taken + 1) w.2
given-none turn done never was is _ course w = tt

pub Serves-open : {P T : Type 0} (asks : P → Call → Result Reply AskFault → P → Type 0) (turn : T → ℕ → Bool → T → Type 0) (done : T → ℕ → T → Type 0)
    (readonly : Bool) → ((t u : T) (n : ℕ) → turn t n false u → ⊥) → (old new : P) (was is : T) (had left : Input) (held holds : Output)
    (result : Result Ended ServeFault) → ServesTurns asks turn done readonly most_reads old new was is had left held holds result
    → Serves asks readonly old new had left held holds result
Serves-open asks turn done readonly never old new was is had left held holds result h = record {
  course = h.course;
  read = h.read;
  within = h.within;
  spelled = h.spelled;
  asked = h.asked;
  written = h.written;
  ends = h.ends;
  turned = given-none turn done never was is result h.course h.turned;
}
