-- Lemmas on the meaning of a line.
use Rattle.std.proofs.Common.{◌≡◌, ℕ, zero, suc, ◌≤◌, ◌<◌, List, [], ◌∷◌, Bool, true, false, leb, length, Option, Some, None, Result, Ok, Err, refl, sym, ap, ◌∙◌, subst, inl, inr, arith, codes}
use Rattle.std.proofs.lemmas.Bool.{cases_Bool, leb-true, le-leb}
use Rattle.std.specs.Prelude.{if◌then◌else◌}
use Rattle.std.specs.Str.{str_eq_ignore_ascii_case}
use Rattle.click_base.specs.Blanks.{trimmed}
use Rattle.click_base.specs.Numbers.{digits, within, decimal_number}
use Rattle.click_base.specs.declared.numbers.NumberFault.{NumberFault}
use Rattle.click_base.specs.declared.numbers.NumberFault.TheVariants as fault
use Rattle.click_router.specs.declared.check.Access.{Access}
use Rattle.click_router.specs.declared.check.Access.TheVariants as direction
use Rattle.click_control.specs.declared.command.Command.TheVariants as command
use Rattle.click_control.specs.Commands.{ParsedLine, blank, whole, announces, payload_line, parse_data, parse_text, parse_check, parse_after, parse_unless_blank, parse_line, first_word, second_word, third_word, after_word, longest_payload}
use Rattle.click_control.specs.kept.Lines.{bad_count}

-- ---- a payload that is announced has at least 1 byte, and at most the maximum

abbrev pub Sound : ParsedLine → Type 0
Sound blank = Unit {0}
Sound (whole c) = Unit {0}
Sound (announces w handler n) = (0 < n) × (n ≤ longest_payload)

either : (b : Bool) (x y : ParsedLine) → Sound x → Sound y → Sound (if b then x else y)
either true x y p q = p
either false x y p q = q

payload_line-sound : (w : Access) (handler : List ℕ) (n : Option ℕ) → Sound (payload_line w handler n)
payload_line-sound w handler None = tt
payload_line-sound w handler (Some zero) = tt
payload_line-sound w handler (Some (suc n)) = elim (cases_Bool (leb (suc n) longest_payload)) [
  | inl h ↦ rw h (omega arith, leb-true (suc n) longest_payload h)
  | inr h ↦ rw h tt
]

parse_data-sound : (w : Access) (handler count third : List ℕ) → Sound (parse_data w handler count third)
parse_data-sound w handler count [] = payload_line-sound w handler (digits count)
parse_data-sound w handler count (b ∷ third) = tt

parse_text-sound : (w : Access) (handler text : List ℕ) → Sound (parse_text w handler text)
parse_text-sound w [] text = tt
parse_text-sound w (b ∷ handler) text = tt

parse_check-sound : (w : Access) (handler second : List ℕ) → Sound (parse_check w handler second)
parse_check-sound w [] second = tt
parse_check-sound w (b ∷ handler) [] = tt
parse_check-sound w (b ∷ handler) (c ∷ second) = tt

parse_after-sound : (word rest : List ℕ) → Sound (parse_after word rest)
parse_after-sound word rest =
    either (str_eq_ignore_ascii_case word (codes "READ")) _ _ (parse_text-sound direction.Read (first_word rest) (trimmed (after_word rest)))
    (either (str_eq_ignore_ascii_case word (codes "WRITE")) _ _ (parse_text-sound direction.Write (first_word rest) (trimmed (after_word rest)))
    (either (str_eq_ignore_ascii_case word (codes "READDATA")) _ _ (parse_data-sound direction.Read (first_word rest) (second_word rest) (third_word rest))
    (either (str_eq_ignore_ascii_case word (codes "WRITEDATA")) _ _ (parse_data-sound direction.Write (first_word rest) (second_word rest) (third_word rest))
    (either (str_eq_ignore_ascii_case word (codes "CHECKREAD")) _ _ (parse_check-sound direction.Read (first_word rest) (second_word rest))
    (either (str_eq_ignore_ascii_case word (codes "CHECKWRITE")) _ _ (parse_check-sound direction.Write (first_word rest) (second_word rest))
    (either (str_eq_ignore_ascii_case word (codes "QUIT")) (whole command.Quit) (whole (command.Unknown word)) tt tt))))))

parse_unless_blank-sound : (word rest : List ℕ) → Sound (parse_unless_blank word rest)
parse_unless_blank-sound [] rest = tt
parse_unless_blank-sound (b ∷ word) rest = parse_after-sound (b ∷ word) rest

pub parse_line-sound : (line : List ℕ) (w : Access) (handler : List ℕ) (n : ℕ) → announces w handler n ≡ parse_line line → (0 < n) × (n ≤ longest_payload)
parse_line-sound line w handler n is = subst Sound (sym is) (parse_unless_blank-sound (first_word line) (after_word line))

-- ---- the number in a line

pub payload_line-some : (w : Access) (handler : List ℕ) (n : ℕ) → 0 < n → n ≤ longest_payload → announces w handler n ≡ payload_line w handler (Some n)
payload_line-some w handler zero some small = absurd (omega arith)
payload_line-some w handler (suc n) some small = rw (le-leb (suc n) longest_payload small) refl

-- the meaning of a line with this payload length, or with this fault in it
abbrev pub announced_by : Access → List ℕ → Result ℕ NumberFault → ParsedLine
announced_by w handler (Ok n) = payload_line w handler (Some n)
announced_by w handler (Err f) = whole (bad_count f)

within_good : (n : ℕ) → leb n 1048576 ≡ true → within 0 1048576 (Some n) ≡ Ok n
within_good n h = rw (h, le-leb 0 n (omega arith)) refl

within_not : (n : ℕ) → leb n 1048576 ≡ false → within 0 1048576 (Some n) ≡ Err fault.OutOfRange
within_not n h = rw (h, le-leb 0 n (omega arith)) refl

payload_line-not : (w : Access) (handler : List ℕ) (n : ℕ) → leb (suc n) longest_payload ≡ false → payload_line w handler (Some (suc n)) ≡ whole command.DataTooLong
payload_line-not w handler n h = rw h refl

payload_line-within : (w : Access) (handler : List ℕ) (n : Option ℕ) → payload_line w handler n ≡ announced_by w handler (within 0 1048576 n)
payload_line-within w handler None = refl
payload_line-within w handler (Some zero) = refl
payload_line-within w handler (Some (suc n)) = elim (cases_Bool (leb (suc n) 1048576)) [
  | inl h ↦ ap (announced_by w handler) (sym (within_good (suc n) h))
  | inr h ↦ payload_line-not w handler n h ∙ ap (announced_by w handler) (sym (within_not (suc n) h))
]

pub payload_line-by : (w : Access) (handler count : List ℕ) → payload_line w handler (digits count) ≡ announced_by w handler (decimal_number 0 1048576 count)
unfolding decimal_number
payload_line-by w handler count = payload_line-within w handler (digits count)

-- a line without a third word
pub parse_data-two : (w : Access) (handler count third : List ℕ) → length third ≡ 0 → parse_data w handler count third ≡ announced_by w handler (decimal_number 0 1048576 count)
parse_data-two w handler count [] e = payload_line-by w handler count
parse_data-two w handler count (b ∷ third) e = absurd (omega (arith, e))

-- ---- a line with a word

parse_unless_blank-some : (word rest : List ℕ) → (length word ≡ 0 → ⊥) → parse_unless_blank word rest ≡ parse_after word rest
parse_unless_blank-some [] rest some = absurd (some refl)
parse_unless_blank-some (b ∷ word) rest some = refl

pub parse_line-word : (line word rest : List ℕ) → word ≡ first_word line → rest ≡ after_word line → (length word ≡ 0 → ⊥) → parse_line line ≡ parse_after word rest
parse_line-word line word rest is after some =
    ap (λ l. parse_unless_blank l (after_word line)) (sym is) ∙ ap (λ l. parse_unless_blank word l) (sym after) ∙ parse_unless_blank-some word rest some
