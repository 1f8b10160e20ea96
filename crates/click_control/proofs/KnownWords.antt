-- Lemmas on the meaning of a line whose words are known.
use Rattle.std.proofs.Common.{◌≡◌, ℕ, zero, suc, ◌^◌, ◌<◌, ◌≤◌, List, [], ◌∷◌, ◌++◌, Bool, true, false, not, ◌&&◌, length, take, Some, decimal, codes, refl, sym, ap, ◌∙◌, append_assoc, append-nil, arith}
use Rattle.std.specs.Prelude.{take_while, nat_le, nat_eq, if◌then◌else◌}
use Rattle.std.specs.Str.{bytes_eq, str_eq_ignore_ascii_case, str_to_ascii_lowercase}
use Rattle.std.specs.List.{list_all, prefix_len}
use Rattle.std.proofs.Math.Seq.{take-append_seam}
use Rattle.std.proofs.lemmas.Bool.Decides.{nat_tests}
use Rattle.std.proofs.lemmas.Fmt.{decimal_nonempty}
use Rattle.click_base.specs.Blanks.{is_blank, without_front, trimmed}
use Rattle.click_base.specs.Numbers.{digit, digits}
use Rattle.click_base.proofs.BlanksAround.{first, last, around}
use Rattle.click_base.proofs.Decimals.{digits-decimal, is_run-decimal, spelled-decimal}
use Rattle.click_router.specs.declared.check.Access.{Access}
use Rattle.click_router.specs.declared.check.Access.TheVariants as direction
use Rattle.click_control.specs.declared.command.Command.TheVariants as command
use Rattle.click_control.specs.Commands.{ParsedLine, whole, announces, payload_line, parse_line, parse_after, parse_unless_blank, first_word, second_word, third_word, after_word, from_blank, parse_text, parse_check, parse_data, text_command, check_command, longest_payload}
use Rattle.click_control.specs.LineWords.{AreBlanks, IsGap, IsWord, EndsWord, text_word, check_word, data_word}

both : (a b : Bool) → (a && b) ≡ true → (a ≡ true) × (b ≡ true)
both true b e = (refl, e)
both false b e = cc

gap_parts : (gap rest : List ℕ) → IsGap gap → EndsWord (gap ++ rest)
gap_parts [] rest h = absurd (let some = h.0 in omega arith)
gap_parts (b ∷ gap) rest h = (both (is_blank b) (list_all is_blank gap) h.1).0

blanks_part : (bs : List ℕ) → AreBlanks bs → EndsWord bs
blanks_part [] h = tt
blanks_part (b ∷ bs) h = (both (is_blank b) (list_all is_blank bs) h).0

skipped : (blanks rest : List ℕ) → AreBlanks blanks → without_front (blanks ++ rest) ≡ without_front rest
skipped [] rest h = refl
skipped (b ∷ blanks) rest h =
    let p = both (is_blank b) (list_all is_blank blanks) h in
    let blank = p.0 in
    rw blank (skipped blanks rest p.1)

no_blank : (b : Bool) → not b ≡ true → b ≡ false
no_blank true e = cc
no_blank false e = refl

stays : (w rest : List ℕ) → IsWord w → without_front (w ++ rest) ≡ w ++ rest
stays [] rest h = absurd (let some = h.0 in omega arith)
stays (b ∷ w) rest h =
    let p = both (not (is_blank b)) (list_all (λ c. not (is_blank c)) w) h.1 in
    let e = no_blank (is_blank b) p.0 in
    rw e refl

word_len : (w rest : List ℕ) → list_all (λ b. not (is_blank b)) w ≡ true → EndsWord rest → prefix_len (λ b. not (is_blank b)) (w ++ rest) ≡ length w
word_len [] [] h q = refl
word_len [] (b ∷ rest) h q = rw q refl
word_len (b ∷ w) rest h q =
    let p = both (not (is_blank b)) (list_all (λ c. not (is_blank c)) w) h in
    let e = no_blank (is_blank b) p.0 in
    let r = word_len w rest p.1 q in
    rw (e, r) (omega arith)

word_left : (w rest : List ℕ) → list_all (λ b. not (is_blank b)) w ≡ true → EndsWord rest → from_blank (w ++ rest) ≡ rest
word_left [] [] h q = refl
word_left [] (b ∷ rest) h q = rw q refl
word_left (b ∷ w) rest h q =
    let p = both (not (is_blank b)) (list_all (λ c. not (is_blank c)) w) h in
    let e = no_blank (is_blank b) p.0 in
    rw e (word_left w rest p.1 q)

-- the first word after blanks, and the rest after it
pub first_is : (blanks w rest : List ℕ) → AreBlanks blanks → IsWord w → EndsWord rest → first_word (blanks ++ (w ++ rest)) ≡ w
first_is blanks w rest h is q =
    let len = word_len w rest is.1 q in
    ap (take_while (λ b. not (is_blank b))) (skipped blanks (w ++ rest) h ∙ stays w rest is)
    ∙ ap (λ n. take n (w ++ rest)) len ∙ take-append_seam w rest

pub after_is : (blanks w rest : List ℕ) → AreBlanks blanks → IsWord w → EndsWord rest → after_word (blanks ++ (w ++ rest)) ≡ rest
after_is blanks w rest h is q = ap from_blank (skipped blanks (w ++ rest) h ∙ stays w rest is) ∙ word_left w rest is.1 q

no_word : (blanks : List ℕ) → AreBlanks blanks → without_front blanks ≡ []
no_word blanks h = ap without_front (sym (append-nil blanks)) ∙ skipped blanks [] h

first_none : (blanks : List ℕ) → AreBlanks blanks → first_word blanks ≡ []
first_none blanks h = ap (take_while (λ b. not (is_blank b))) (no_word blanks h)

after_none : (blanks : List ℕ) → AreBlanks blanks → after_word blanks ≡ []
after_none blanks h = ap from_blank (no_word blanks h)

-- the meaning of a line whose first word is this
parsed : (before w rest : List ℕ) → AreBlanks before → IsWord w → EndsWord rest → parse_line (before ++ (w ++ rest)) ≡ parse_unless_blank w rest
parsed before w rest h is q =
    ap (λ v. parse_unless_blank v (after_word (before ++ (w ++ rest)))) (first_is before w rest h is q) ∙ ap (parse_unless_blank w) (after_is before w rest h is q)

trimmed_around : (front text back : List ℕ) → AreBlanks front → AreBlanks back → trimmed text ≡ text → trimmed (front ++ (text ++ back)) ≡ text
trimmed_around front text back h g e = around front text back h g (λ b rest i. first text rest b (e ∙ i)) (λ b rest i. last text rest b (e ∙ i))

trimmed_none : (blanks : List ℕ) → AreBlanks blanks → trimmed blanks ≡ []
trimmed_none blanks h = ap (λ l. trimmed l) (sym (append-nil blanks)) ∙ trimmed_around blanks [] [] h refl refl

text_whole : (w : Access) (handler text : List ℕ) → IsWord handler → parse_text w handler text ≡ whole (text_command w handler text)
text_whole w [] text is = absurd (let some = is.0 in omega arith)
text_whole w (b ∷ handler) text is = refl

check_whole : (w : Access) (handler : List ℕ) → IsWord handler → parse_check w handler [] ≡ whole (check_command w handler)
check_whole w [] is = absurd (let some = is.0 in omega arith)
check_whole w (b ∷ handler) is = refl

-- the meaning of a line that begins with a word of the protocol
text_said_by : (w : Access) (rest : List ℕ) → parse_unless_blank (text_word w) rest ≡ parse_text w (first_word rest) (trimmed (after_word rest))
text_said_by direction.Read rest = refl
text_said_by direction.Write rest = refl

check_said_by : (w : Access) (rest : List ℕ) → parse_unless_blank (check_word w) rest ≡ parse_check w (first_word rest) (second_word rest)
check_said_by direction.Read rest = refl
check_said_by direction.Write rest = refl

data_said_by : (w : Access) (rest : List ℕ) → parse_unless_blank (data_word w) rest ≡ parse_data w (first_word rest) (second_word rest) (third_word rest)
data_said_by direction.Read rest = refl
data_said_by direction.Write rest = refl

text_word-is : (w : Access) → IsWord (text_word w)
text_word-is direction.Read = (omega arith, refl)
text_word-is direction.Write = (omega arith, refl)

check_word-is : (w : Access) → IsWord (check_word w)
check_word-is direction.Read = (omega arith, refl)
check_word-is direction.Write = (omega arith, refl)

data_word-is : (w : Access) → IsWord (data_word w)
data_word-is direction.Read = (omega arith, refl)
data_word-is direction.Write = (omega arith, refl)

-- a handler, and a text after it
module _ (w : Access) (gap handler space text after : List ℕ) (apart : IsGap gap) (word : IsWord handler) (behind : IsGap space) (clean : trimmed text ≡ text) (blank : AreBlanks after) where
  rest_text : parse_text w (first_word (gap ++ (handler ++ (space ++ (text ++ after))))) (trimmed (after_word (gap ++ (handler ++ (space ++ (text ++ after)))))) ≡ whole (text_command w handler text)
  rest_text =
      let q = gap_parts space (text ++ after) behind in
      ap (λ h. parse_text w h (trimmed (after_word (gap ++ (handler ++ (space ++ (text ++ after))))))) (first_is gap handler (space ++ (text ++ after)) apart.1 word q)
      ∙ ap (λ l. parse_text w handler (trimmed l)) (after_is gap handler (space ++ (text ++ after)) apart.1 word q)
      ∙ ap (parse_text w handler) (trimmed_around space text after behind.1 blank clean) ∙ text_whole w handler text word

  pub parsed-text : (before : List ℕ) → AreBlanks before → parse_line (before ++ text_word w ++ gap ++ handler ++ space ++ text ++ after) ≡ whole (text_command w handler text)
  parsed-text before blanks =
      let rest = gap ++ (handler ++ (space ++ (text ++ after))) in
      let e = parsed before (text_word w) rest blanks (text_word-is w) (gap_parts gap (handler ++ (space ++ (text ++ after))) apart)
      ∙ text_said_by w rest ∙ rest_text in
      simp append_assoc e

-- a handler alone
module _ (w : Access) (gap handler after : List ℕ) (apart : IsGap gap) (word : IsWord handler) (blank : AreBlanks after) where
  handler_is : first_word (gap ++ (handler ++ after)) ≡ handler
  handler_is = first_is gap handler after apart.1 word (blanks_part after blank)

  left : after_word (gap ++ (handler ++ after)) ≡ after
  left = after_is gap handler after apart.1 word (blanks_part after blank)

  pub parsed-bare : (before : List ℕ) → AreBlanks before → parse_line (before ++ text_word w ++ gap ++ handler ++ after) ≡ whole (text_command w handler [])
  parsed-bare before blanks =
      let rest = gap ++ (handler ++ after) in
      let e = parsed before (text_word w) rest blanks (text_word-is w) (gap_parts gap (handler ++ after) apart)
      ∙ text_said_by w rest
      ∙ ap (λ h. parse_text w h (trimmed (after_word rest))) handler_is
      ∙ ap (λ l. parse_text w handler (trimmed l)) left
      ∙ ap (parse_text w handler) (trimmed_none after blank) ∙ text_whole w handler [] word in
      simp append_assoc e

  pub parsed-check : (before : List ℕ) → AreBlanks before → parse_line (before ++ check_word w ++ gap ++ handler ++ after) ≡ whole (check_command w handler)
  parsed-check before blanks =
      let rest = gap ++ (handler ++ after) in
      let e = parsed before (check_word w) rest blanks (check_word-is w) (gap_parts gap (handler ++ after) apart)
      ∙ check_said_by w rest
      ∙ ap (λ h. parse_check w h (second_word rest)) handler_is
      ∙ ap (λ l. parse_check w handler (first_word l)) left
      ∙ ap (parse_check w handler) (first_none after blank) ∙ check_whole w handler word in
      simp append_assoc e

pub parsed-quit : (before after : List ℕ) → AreBlanks before → AreBlanks after → parse_line (before ++ codes "QUIT" ++ after) ≡ whole command.Quit
parsed-quit before after blanks blank =
    let e = parsed before (codes "QUIT") after blanks (omega arith, refl) (blanks_part after blank) in
    simp append_assoc e

-- ---- a number

digit_parts : (b : ℕ) → digit b ≡ true → not (is_blank b) ≡ true
digit_parts b h = grind (arith, nat_tests)

digits_word : (ds : List ℕ) → list_all digit ds ≡ true → list_all (λ b. not (is_blank b)) ds ≡ true
digits_word [] h = refl
digits_word (d ∷ ds) h =
    let p = both (digit d) (list_all digit ds) h in
    let e = digit_parts d p.0 in
    let r = digits_word ds p.1 in
    rw (e, r) refl

decimal_word : (n : ℕ) → n < 2 ^ 64 → IsWord (decimal n)
decimal_word n h = (decimal_nonempty n h, digits_word (decimal n) (digits-decimal n h))

digits_read : (n : ℕ) → n < 2 ^ 64 → digits (decimal n) ≡ Some n
digits_read n h =
    let r = is_run-decimal n h in
    let s = spelled-decimal n h in
    rw (r, s) refl

pub payload_line-some : (w : Access) (handler : List ℕ) (n : ℕ) → 1 ≤ n → n ≤ longest_payload → payload_line w handler (Some n) ≡ announces w handler n
payload_line-some w handler zero p q = absurd (omega arith)
payload_line-some w handler (suc n) p q = let t : nat_le (suc n) longest_payload ≡ true = grind (arith, nat_tests) in rw t refl

pub payload_line-many : (w : Access) (handler : List ℕ) (n : ℕ) → longest_payload < n → payload_line w handler (Some n) ≡ whole command.DataTooLong
payload_line-many w handler zero p = absurd (omega arith)
payload_line-many w handler (suc n) p = let t : nat_le (suc n) longest_payload ≡ false = grind (arith, nat_tests) in rw t refl

module _ (w : Access) (before gap handler space after : List ℕ) (n : ℕ) (blanks : AreBlanks before) (apart : IsGap gap) (word : IsWord handler) (behind : IsGap space) (blank : AreBlanks after) (small : n < 2 ^ 64) where
  pub parsed-data : parse_line (before ++ data_word w ++ gap ++ handler ++ space ++ decimal n ++ after) ≡ payload_line w handler (Some n)
  parsed-data =
      let tail = space ++ (decimal n ++ after) in
      let rest = gap ++ (handler ++ tail) in
      let q = gap_parts space (decimal n ++ after) behind in
      let left = after_is gap handler tail apart.1 word q in
      let number = decimal_word n small in
      let end = blanks_part after blank in
      let e = parsed before (data_word w) rest blanks (data_word-is w) (gap_parts gap (handler ++ tail) apart)
      ∙ data_said_by w rest
      ∙ ap (λ h. parse_data w h (second_word rest) (third_word rest)) (first_is gap handler tail apart.1 word q)
      ∙ ap (λ l. parse_data w handler (first_word l) (first_word (after_word l))) left
      ∙ ap (λ c. parse_data w handler c (first_word (after_word tail))) (first_is space (decimal n) after behind.1 number end)
      ∙ ap (λ l. parse_data w handler (decimal n) (first_word l)) (after_is space (decimal n) after behind.1 number end)
      ∙ ap (parse_data w handler (decimal n)) (first_none after blank)
      ∙ ap (payload_line w handler) (digits_read n small) in
      simp append_assoc e

-- ---- the case of the first word

same_bytes : (xs ys : List ℕ) → bytes_eq xs ys ≡ true → xs ≡ ys
same_bytes [] [] e = refl
same_bytes [] (y ∷ ys) e = cc
same_bytes (x ∷ xs) [] e = cc
same_bytes (x ∷ xs) (y ∷ ys) e =
    let p = both (nat_eq x y) (bytes_eq xs ys) e in
    let first_same : x ≡ y = grind (arith, nat_tests) in
    let others = same_bytes xs ys p.1 in
    cc

-- one more test of the word, which both words pass or neither
tested : (b : Bool) (s x y u : ParsedLine) → ((x ≡ u → ⊥) → y ≡ x) → ((if b then s else x) ≡ u → ⊥) → (if b then s else y) ≡ (if b then s else x)
tested true s x y u f h = refl
tested false s x y u f h = f h

by_case : (word other rest : List ℕ) → str_eq_ignore_ascii_case word other ≡ true → (parse_after other rest ≡ whole (command.Unknown other) → ⊥) → parse_after word rest ≡ parse_after other rest
by_case word other rest e known =
    let lower : str_to_ascii_lowercase word ≡ str_to_ascii_lowercase other = same_bytes (str_to_ascii_lowercase word) (str_to_ascii_lowercase other) e in
    let u = whole (command.Unknown other) in
    rw lower (tested (str_eq_ignore_ascii_case other (codes "READ")) _ _ _ u
    (tested (str_eq_ignore_ascii_case other (codes "WRITE")) _ _ _ u
    (tested (str_eq_ignore_ascii_case other (codes "READDATA")) _ _ _ u
    (tested (str_eq_ignore_ascii_case other (codes "WRITEDATA")) _ _ _ u
    (tested (str_eq_ignore_ascii_case other (codes "CHECKREAD")) _ _ _ u
    (tested (str_eq_ignore_ascii_case other (codes "CHECKWRITE")) _ _ _ u
    (tested (str_eq_ignore_ascii_case other (codes "QUIT")) _ _ _ u (λ h. absurd (h refl)))))))) known)

word_said : (w rest : List ℕ) → IsWord w → parse_unless_blank w rest ≡ parse_after w rest
word_said [] rest is = absurd (let some = is.0 in omega arith)
word_said (b ∷ w) rest is = refl

pub parsed-case : (before word other rest : List ℕ) → AreBlanks before → IsWord word → IsWord other → EndsWord rest → str_eq_ignore_ascii_case word other ≡ true
    → (parse_line (before ++ (other ++ rest)) ≡ whole (command.Unknown other) → ⊥) → parse_line (before ++ (word ++ rest)) ≡ parse_line (before ++ (other ++ rest))
parsed-case before word other rest blanks is also end e known =
    let from = parsed before other rest blanks also end ∙ word_said other rest also in
    parsed before word rest blanks is end ∙ word_said word rest is ∙ by_case word other rest e (λ h. known (from ∙ h)) ∙ sym from
