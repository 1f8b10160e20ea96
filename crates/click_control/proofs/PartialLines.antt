-- Lemmas on lines and payloads that are incomplete.
use Rattle.std.proofs.Common.{◌≡◌, ℕ, ◌-◌, ◌<◌, List, [], ◌∷◌, ◌++◌, length, refl, sym, ap, ◌∙◌, append_assoc, append-nil, inl, inr, arith}
use Rattle.click_router.specs.declared.check.Access.{Access}
use Rattle.click_control.specs.Commands.{in_line, in_payload, announces, parse_line, commands, commands_from, IsEndBefore}
use Rattle.click_control.proofs.LineRests.{IsLineOf, line_then, no_feed_before}
use Rattle.click_control.proofs.StreamCommands.{commands_from-within, commands_from-partial, payload_step, payload_short, feed_before_payload}

pub line_waits : (line more : List ℕ) → IsLineOf line → commands (line ++ more) ≡ commands_from (in_line line) more
line_waits line more is = commands_from-within [] line more is.no_end (omega (arith, is.short))

pub line_none : (line : List ℕ) → IsLineOf line → commands line ≡ []
line_none line is = commands_from-partial line is.no_end is.short

pub payload_none : (line e came : List ℕ) (w : Access) (handler : List ℕ) (n : ℕ) → IsLineOf line → IsEndBefore e came
    → parse_line line ≡ announces w handler n → length came < n → commands (line ++ (e ++ came)) ≡ []
payload_none line e came w handler n is end says few = elim end [
  | inl p ↦ rw p (line_then line 10 came (announces w handler n) is refl says ∙ payload_short w handler n 10 came few)
  | inr (inl p) ↦ rw p (line_then line 13 (10 ∷ came) (announces w handler n) is refl says
      ∙ feed_before_payload w handler n 10 came refl ∙ payload_short w handler n 10 came few)
  | inr (inr p) ↦ rw p.0 (line_then line 13 came (announces w handler n) is refl says ∙ payload_short w handler n 13 came few)
]

-- the first bytes of a payload go into it
going : (w : Access) (handler came xs ys : List ℕ) (n : ℕ) → length xs < n
    → commands_from (in_payload w handler n came) (xs ++ ys) ≡ commands_from (in_payload w handler (n - length xs) (came ++ xs)) ys
going w handler came [] ys n q =
    let all : n ≡ n - length {A = ℕ} [] = omega arith in
    ap (λ m. commands_from (in_payload w handler m came) ys) all
    ∙ ap (λ l. commands_from (in_payload w handler (n - length {A = ℕ} []) l) ys) (sym (append-nil came))
going w handler came (x ∷ xs) ys n q =
    let left : n - 1 - length xs ≡ n - length (x ∷ xs) = omega arith in
    payload_step w handler came n x (xs ++ ys) (omega arith)
    ∙ going w handler (came ++ x ∷ []) xs ys (n - 1) (omega arith)
    ∙ ap (λ m. commands_from (in_payload w handler m ((came ++ x ∷ []) ++ xs)) ys) left
    ∙ ap (λ l. commands_from (in_payload w handler (n - length (x ∷ xs)) l) ys) (append_assoc came (x ∷ []) xs)

pub payload_waits_for : (line e came more : List ℕ) (w : Access) (handler : List ℕ) (n : ℕ) → IsLineOf line → IsEndBefore e came
    → parse_line line ≡ announces w handler n → 0 < length came → length came < n
    → commands (line ++ (e ++ (came ++ more))) ≡ commands_from (in_payload w handler (n - length came) came) more
payload_waits_for line e came more w handler n is end says some few =
    let all = going w handler [] came more n few in
    elim end [
      | inl p ↦ rw p (line_then line 10 (came ++ more) (announces w handler n) is refl says ∙ all)
      | inr (inl p) ↦ rw p (line_then line 13 (10 ∷ (came ++ more)) (announces w handler n) is refl says
          ∙ feed_before_payload w handler n 10 (came ++ more) refl ∙ all)
      | inr (inr p) ↦ rw p.0 (line_then line 13 (came ++ more) (announces w handler n) is refl says
          ∙ no_feed_before w handler came more n some p.1 ∙ all)
    ]
