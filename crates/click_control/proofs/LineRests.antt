-- Lemmas on the bytes that follow a line and its end.
use Rattle.std.proofs.Common.{◌≡◌, ℕ, ◌<◌, ◌≤◌, List, [], ◌∷◌, ◌++◌, true, false, length, refl, sym, ap, ◌∙◌, append-nil, inl, inr, arith}
use Rattle.click_router.specs.declared.check.Access.{Access}
use Rattle.click_control.specs.declared.command.Command.{Command}
use Rattle.click_control.specs.Commands.{in_line, after_return, over, before_payload, in_payload, ParsedLine, blank, whole, announces, parse_line, is_end, is_last, listed, after_end, after_line, text_command, commands, commands_from, longest_line, HasNoEnd, BeginsNoFeed, IsEndBefore}
use Rattle.click_control.proofs.StreamCommands.{commands_from-nil, commands_from-over, commands_from-within, commands_from-end, feed_after_return, other_after_return, payload_whole, feed_before_payload, other_before_payload}

-- a line of a stream, without an end in it, that is not too long
pub record IsLineOf (line : List ℕ) : Type 0 where
  pub no_end : HasNoEnd line
  pub short : length line ≤ longest_line

pub line_then : (line : List ℕ) (e : ℕ) (ys : List ℕ) (s : ParsedLine) → IsLineOf line → is_end e ≡ true → parse_line line ≡ s
    → commands (line ++ e ∷ ys) ≡ listed s ++ commands_from (after_line s e) ys
line_then line e ys s is end says =
    commands_from-within [] line (e ∷ ys) is.no_end (omega (arith, is.short)) ∙ commands_from-end line e ys end
    ∙ ap (λ t. listed t ++ commands_from (after_line t e) ys) says

no_feed_after_return : (more : List ℕ) → BeginsNoFeed more → commands_from after_return more ≡ commands more
no_feed_after_return [] h = commands_from-nil after_return ∙ sym (commands_from-nil (in_line []))
no_feed_after_return (b ∷ bs) h = other_after_return b bs h

-- a line after which another line begins
follows : (line e more : List ℕ) (s : ParsedLine) → IsLineOf line → IsEndBefore e more → parse_line line ≡ s → ((b : ℕ) → after_line s b ≡ after_end b)
    → commands (line ++ (e ++ more)) ≡ listed s ++ commands more
follows line e more s is end says next = elim end [
  | inl p ↦ rw p (line_then line 10 more s is refl says ∙ ap (λ r. listed s ++ commands_from r more) (next 10))
  | inr (inl p) ↦ rw p (line_then line 13 (10 ∷ more) s is refl says ∙ ap (λ r. listed s ++ commands_from r (10 ∷ more)) (next 13)
      ∙ ap (λ cs. listed s ++ cs) (feed_after_return more))
  | inr (inr p) ↦ rw p.0 (line_then line 13 more s is refl says ∙ ap (λ r. listed s ++ commands_from r more) (next 13)
      ∙ ap (λ cs. listed s ++ cs) (no_feed_after_return more p.1))
]

-- a line after which nothing is read
ends_all : (line e more : List ℕ) (s : ParsedLine) → IsLineOf line → IsEndBefore e more → parse_line line ≡ s → ((b : ℕ) → after_line s b ≡ over)
    → commands (line ++ (e ++ more)) ≡ listed s
ends_all line e more s is end says last =
    let none : (ys : List ℕ) (b : ℕ) → listed s ++ commands_from (after_line s b) ys ≡ listed s = λ ys b.
    ap (λ r. listed s ++ commands_from r ys) (last b) ∙ ap (λ cs. listed s ++ cs) (commands_from-over ys) ∙ append-nil (listed s) in
    elim end [
      | inl p ↦ rw p (line_then line 10 more s is refl says ∙ none more 10)
      | inr (inl p) ↦ rw p (line_then line 13 (10 ∷ more) s is refl says ∙ none (10 ∷ more) 13)
      | inr (inr p) ↦ rw p.0 (line_then line 13 more s is refl says ∙ none more 13)
    ]

pub after_blank : (line e more : List ℕ) → IsLineOf line → IsEndBefore e more → parse_line line ≡ blank → commands (line ++ (e ++ more)) ≡ commands more
after_blank line e more is end says = follows line e more blank is end says (λ b. refl)

goes_on : (c : Command) (b : ℕ) → is_last c ≡ false → after_line (whole c) b ≡ after_end b
goes_on c b h = rw h refl

is_over : (c : Command) (b : ℕ) → is_last c ≡ true → after_line (whole c) b ≡ over
is_over c b h = rw h refl

pub after_whole : (line e more : List ℕ) (c : Command) → IsLineOf line → IsEndBefore e more → parse_line line ≡ whole c → is_last c ≡ false
    → commands (line ++ (e ++ more)) ≡ c ∷ commands more
after_whole line e more c is end says h = follows line e more (whole c) is end says (λ b. goes_on c b h)

pub after_last : (line e more : List ℕ) (c : Command) → IsLineOf line → IsEndBefore e more → parse_line line ≡ whole c → is_last c ≡ true
    → commands (line ++ (e ++ more)) ≡ c ∷ []
after_last line e more c is end says h = ends_all line e more (whole c) is end says (λ b. is_over c b h)

-- ---- a payload

pub no_feed_before : (w : Access) (handler payload more : List ℕ) (n : ℕ) → 0 < length payload → BeginsNoFeed payload
    → commands_from (before_payload w handler n) (payload ++ more) ≡ commands_from (in_payload w handler n []) (payload ++ more)
no_feed_before w handler [] more n some h = absurd (omega arith)
no_feed_before w handler (b ∷ bs) more n some h = other_before_payload w handler n b (bs ++ more) h

pub after_payload : (line e payload more : List ℕ) (w : Access) (handler : List ℕ) (n : ℕ) → IsLineOf line → IsEndBefore e payload
    → parse_line line ≡ announces w handler n → length payload ≡ n → 0 < n
    → commands (line ++ (e ++ (payload ++ more))) ≡ text_command w handler payload ∷ commands more
after_payload line e payload more w handler n is end says len some =
    let all = payload_whole w handler [] payload more n len some in
    elim end [
      | inl p ↦ rw p (line_then line 10 (payload ++ more) (announces w handler n) is refl says ∙ all)
      | inr (inl p) ↦ rw p (line_then line 13 (10 ∷ (payload ++ more)) (announces w handler n) is refl says
          ∙ feed_before_payload w handler n 10 (payload ++ more) refl ∙ all)
      | inr (inr p) ↦ rw p.0 (line_then line 13 (payload ++ more) (announces w handler n) is refl says
          ∙ no_feed_before w handler payload more n (omega (arith, len, some)) p.1 ∙ all)
    ]
