-- Lemmas on the calls of commands, and on making them.
use Rattle.std.proofs.Common.{◌≡◌, ℕ, Bool, true, false, List, [], ◌∷◌, ◌++◌, length, map, Option, None, Some, Result, refl, sym, ap, subst, ◌∙◌, length-append, arith}
use Rattle.std.specs.Prelude.{IfSome}
use Rattle.click_router.specs.declared.call.Call.{Call}
use Rattle.click_router.specs.declared.call.Reply.{Reply}
use Rattle.click_control.specs.declared.port.AskFault.{AskFault}
use Rattle.click_control.specs.declared.command.Answer.{Answer}
use Rattle.click_control.specs.declared.command.Command.{Command}
use Rattle.click_control.specs.declared.command.Command.TheVariants as command
use Rattle.click_control.specs.Serving.{Answered, Asked, nothing, then_one, call_of}
use Rattle.click_page.specs.Asking.{reading}
use Rattle.click_page.specs.Metrics.{full_name, later}
use Rattle.click_page.specs.declared.sample.Sample.{Sample}
use Rattle.click_page.specs.declared.survey.Survey.{Survey}
use Rattle.click_page.specs.kept.Calls.{AreNoPolls, read_call}

-- the calls that read handlers are those of the commands that read them
pub reading_calls : (readonly : Bool) (handlers : List (List ℕ)) → map read_call handlers ≡ map (call_of readonly) (map reading handlers)
reading_calls readonly [] = refl
reading_calls readonly (h ∷ handlers) = ap (λ cs. read_call h ∷ cs) (reading_calls readonly handlers)

-- there is a read for each sample
reads-length : (samples : List Sample) → length (map reading (map full_name samples)) ≡ length samples
reads-length [] = refl
reads-length (s ∷ samples) = omega (arith, reads-length samples)

-- no command makes a Poll
pub made_no_polls : (readonly : Bool) (commands : List Command) → AreNoPolls (map (call_of readonly) commands)
made_no_polls readonly [] = tt
made_no_polls readonly (command.Read handler text ∷ cs) = (refl, made_no_polls readonly cs)
made_no_polls true (command.Write handler text ∷ cs) = (tt, made_no_polls true cs)
made_no_polls false (command.Write handler text ∷ cs) = (refl, made_no_polls false cs)
made_no_polls readonly (command.CheckRead handler ∷ cs) = (refl, made_no_polls readonly cs)
made_no_polls true (command.CheckWrite handler ∷ cs) = (tt, made_no_polls true cs)
made_no_polls false (command.CheckWrite handler ∷ cs) = (refl, made_no_polls false cs)
made_no_polls readonly (_ ∷ cs) = (tt, made_no_polls readonly cs)

-- commands with a last one, whose call is the last of these calls
Ends : (Command → Option Call) → List (Option Call) → Option Call → List Command → Type 0
Ends f calls last cs = (front : List Command) × (c : Command) × (cs ≡ front ++ c ∷ []) × (calls ≡ map f front) × (last ≡ f c)

ends-cons : (f : Command → Option Call) (x : Option Call) (calls : List (Option Call)) (last : Option Call) (d : Command) (cs : List Command) → x ≡ f d
    → Ends f calls last cs → Ends f (x ∷ calls) last (d ∷ cs)
unfolding Ends
ends-cons f x calls last d cs head (front, c, whole, made, ends) =
    (d ∷ front, c, ap (λ l. d ∷ l) whole, ap (λ k. k ∷ calls) head ∙ ap (λ l. f d ∷ l) made, ends)

-- the last of the calls of commands is that of the last command
last_call : (f : Command → Option Call) (calls : List (Option Call)) (last : Option Call) (cs : List Command) → calls ++ last ∷ [] ≡ map f cs → Ends f calls last cs
unfolding Ends
last_call f [] last [] e = absurd (cc)
last_call f [] last (c ∷ []) e = let same : last ≡ f c = cc in ([], c, refl, refl, same)
last_call f [] last (c ∷ d ∷ cs) e = absurd (cc)
last_call f (x ∷ calls) last [] e = absurd (cc)
last_call f (x ∷ calls) last (c ∷ cs) e =
    let head : x ≡ f c = cc in
    let tail : calls ++ last ∷ [] ≡ map f cs = cc in
    ends-cons f x calls last c cs head (last_call f calls last cs tail)

module _ {P : Type 0} (asks : P → Call → Result Reply AskFault → P → Type 0) where
  -- no call was made yet
  pub asked-none : (p : P) (answers : List Answer) → answers ≡ [] → (readonly : Bool) (commands : List Command) → [] ≡ map (call_of readonly) commands
      → Asked asks readonly p commands answers p
  asked-none p answers none readonly [] e = subst (λ (l : List Answer). Asked asks readonly p [] l p) (sym none) (nothing p)
  asked-none p answers none readonly (c ∷ cs) e = absurd (cc)

  more-at : (old mid new : P) (calls : List (Option Call)) (answers : List Answer) (call : Option Call) (a : Answer) (readonly : Bool) (commands : List Command)
      → ((commands : List Command) → calls ≡ map (call_of readonly) commands → Asked asks readonly old commands answers mid)
      → Answered asks mid call a new → Ends (call_of readonly) calls call commands → Asked asks readonly old commands (answers ++ a ∷ []) new
  unfolding Ends
  more-at old mid new calls answers call a readonly commands before step (front, c, whole, made, ends) =
      subst (λ (cs : List Command). Asked asks readonly old cs (answers ++ a ∷ []) new) (sym whole)
      (then_one old mid new front answers c a (before front made) (subst (λ (k : Option Call). Answered asks mid k a new) ends step))

  -- one more call was made
  pub asked-more : (old mid new : P) (calls : List (Option Call)) (answers more : List Answer) (call : Option Call) (a : Answer) → more ≡ answers ++ a ∷ []
      → ((readonly : Bool) (commands : List Command) → calls ≡ map (call_of readonly) commands → Asked asks readonly old commands answers mid)
      → Answered asks mid call a new
      → (readonly : Bool) (commands : List Command) → calls ++ call ∷ [] ≡ map (call_of readonly) commands → Asked asks readonly old commands more new
  asked-more old mid new calls answers more call a is before step readonly commands e =
      subst (λ (l : List Answer). Asked asks readonly old commands l new) (sym is)
      (more-at old mid new calls answers call a readonly commands (before readonly) step (last_call (call_of readonly) calls call commands e))

  -- each command has its answer
  pub asked-each : (readonly : Bool) (p : P) (cs : List Command) (answers : List Answer) (q : P) → Asked asks readonly p cs answers q → length answers ≡ length cs
  asked-each readonly _ _ _ _ (nothing p) = refl
  asked-each readonly _ _ _ _ (then_one p mid q cs answers c a before step) =
      omega (arith, asked-each readonly p cs answers mid before, length-append cs (c ∷ []), length-append answers (a ∷ []))

  -- each sample of a survey has its answer
  pub survey-each : (readonly : Bool) (p : P) (survey : Option Survey) (values : List Answer) (q : P) → Asked asks readonly p (later survey) values q
      → IfSome survey (λ s. length values ≡ length s.samples)
  survey-each readonly p None values q asked = tt
  survey-each readonly p (Some s) values q asked = asked-each readonly p (map reading (map full_name s.samples)) values q asked ∙ reads-length s.samples
