-- Lemmas on the commands of a stream.
use Rattle.std.proofs.Common.{◌≡◌, ℕ, zero, suc, ◌+◌, ◌-◌, ◌<◌, ◌≤◌, List, [], ◌∷◌, ◌++◌, true, false, ◌&&◌, eqb, length, get_or, take, drop, refl, sym, ap, ◌∙◌, subst, append_assoc, append-nil, take-append-drop, get_or-take, get_or-drop, length-take, length-append, length-take-le, take-take, take_all, eqb-true, inl, inr, arith}
use Rattle.std.proofs.lemmas.Bool.{lt-leb, le-leb, ne_eqb, cases_lt, cases_Bool}
use Rattle.std.proofs.lemmas.List.{drop_more}
use Rattle.click_control.specs.declared.command.Command.TheVariants as command
use Rattle.click_control.specs.Commands.{Reading, in_line, after_return, over, completed, after_byte, completed_in, after_byte_in, commands_from, parse_line, is_end, listed, after_line, longest_line, text_command, before_payload, in_payload, payload_after, completed_payload, after_payload_byte, HasNoEnd}
use Rattle.click_control.specs.Taking.{Pending, to_come, fed}
use Rattle.click_router.specs.declared.check.Access.{Access}
use Rattle.click_control.specs.kept.Lines.{end_length}

-- the position of the reading after these bytes
abbrev pub reading_after : Reading → List ℕ → Reading
reading_after r [] = r
reading_after r (b ∷ bs) = reading_after (after_byte r b) bs

pub commands_from-append : (r : Reading) (xs ys : List ℕ) → commands_from r (xs ++ ys) ≡ commands_from r xs ++ commands_from (reading_after r xs) ys
unfolding commands_from
commands_from-append r [] ys = refl
commands_from-append r (x ∷ xs) ys =
    ap (λ cs. completed r x ++ cs) (commands_from-append (after_byte r x) xs ys)
    ∙ sym (append_assoc (completed r x) (commands_from (after_byte r x) xs) (commands_from (reading_after (after_byte r x) xs) ys))

pub commands_from-over : (xs : List ℕ) → commands_from over xs ≡ []
unfolding commands_from
commands_from-over [] = refl
commands_from-over (x ∷ xs) = commands_from-over xs

pub commands_from-nil : (r : Reading) → commands_from r [] ≡ []
unfolding commands_from
commands_from-nil r = refl

-- ---- bytes that hold no line end

pub HasNoEnd-from : (bs : List ℕ) → ((k : ℕ) → k < length bs → is_end (get_or bs k 0) ≡ false) → HasNoEnd bs
HasNoEnd-from [] h = tt
HasNoEnd-from (b ∷ bs) h = (h 0 (omega arith), HasNoEnd-from bs (λ k q. h (suc k) (omega arith)))

pub HasNoEnd-at : (bs : List ℕ) (k : ℕ) → HasNoEnd bs → k < length bs → is_end (get_or bs k 0) ≡ false
HasNoEnd-at [] k h q = absurd (omega arith)
HasNoEnd-at (b ∷ bs) zero h q = h.0
HasNoEnd-at (b ∷ bs) (suc k) h q = HasNoEnd-at bs k h.1 (omega arith)

pub HasNoEnd-take : (n : ℕ) (bs : List ℕ) → HasNoEnd bs → HasNoEnd (take n bs)
HasNoEnd-take zero bs h = tt
HasNoEnd-take (suc n) [] h = tt
HasNoEnd-take (suc n) (b ∷ bs) h = (h.0, HasNoEnd-take n bs h.1)

-- ---- a line of a stream

completed_within : (line : List ℕ) (x : ℕ) → is_end x ≡ false → length line < longest_line → completed_in line x ≡ []
completed_within line x h q = rw (h, lt-leb longest_line (length line) q) refl

after_within : (line : List ℕ) (x : ℕ) → is_end x ≡ false → length line < longest_line → after_byte_in line x ≡ in_line (line ++ x ∷ [])
after_within line x h q = rw (h, lt-leb longest_line (length line) q) refl

-- bytes that hold no line end go into the line
pub commands_from-within : (line xs ys : List ℕ) → HasNoEnd xs → length line + length xs ≤ longest_line → commands_from (in_line line) (xs ++ ys) ≡ commands_from (in_line (line ++ xs)) ys
unfolding commands_from
commands_from-within line [] ys h q = ap (λ l. commands_from (in_line l) ys) (sym (append-nil line))
commands_from-within line (x ∷ xs) ys h q =
    let short : length line < longest_line = omega arith in
    ap (λ cs. cs ++ commands_from (after_byte_in line x) (xs ++ ys)) (completed_within line x h.0 short)
    ∙ ap (λ r. commands_from r (xs ++ ys)) (after_within line x h.0 short)
    ∙ commands_from-within (line ++ x ∷ []) xs ys h.1 (omega (arith, length-append line (x ∷ [])))
    ∙ ap (λ l. commands_from (in_line l) ys) (append_assoc line (x ∷ []) xs)

pub commands_from-end : (line : List ℕ) (e : ℕ) (ys : List ℕ) → is_end e ≡ true → commands_from (in_line line) (e ∷ ys) ≡ listed (parse_line line) ++ commands_from (after_line (parse_line line) e) ys
unfolding commands_from
commands_from-end line e ys h = rw h refl

commands_from-beyond : (line : List ℕ) (x : ℕ) (ys : List ℕ) → is_end x ≡ false → longest_line ≤ length line → commands_from (in_line line) (x ∷ ys) ≡ command.LineTooLong ∷ []
unfolding commands_from
commands_from-beyond line x ys h q =
    rw (h, le-leb longest_line (length line) q) (ap (λ cs. command.LineTooLong ∷ cs) (commands_from-over ys))

split_at : (bytes : List ℕ) (n : ℕ) → n < length bytes → bytes ≡ take n bytes ++ get_or bytes n 0 ∷ drop (n + 1) bytes
split_at bytes n q = sym (take-append-drop n bytes) ∙ ap (λ l. take n bytes ++ l) (drop_more bytes n 0 q)

split_more : (bytes more : List ℕ) (n : ℕ) → n < length bytes → bytes ++ more ≡ take n bytes ++ (get_or bytes n 0 ∷ (drop (n + 1) bytes ++ more))
split_more bytes more n q = ap (λ l. l ++ more) (split_at bytes n q) ∙ append_assoc (take n bytes) (get_or bytes n 0 ∷ drop (n + 1) bytes) more

-- a line with its end
pub commands_from-line : (bytes more : List ℕ) (n : ℕ) → n < length bytes → n ≤ longest_line → HasNoEnd (take n bytes) → is_end (get_or bytes n 0) ≡ true
    → commands_from (in_line []) (bytes ++ more) ≡ listed (parse_line (take n bytes)) ++ commands_from (after_line (parse_line (take n bytes)) (get_or bytes n 0)) (drop (n + 1) bytes ++ more)
commands_from-line bytes more n q short h e =
    ap (λ l. commands_from (in_line []) l) (split_more bytes more n q)
    ∙ commands_from-within [] (take n bytes) (get_or bytes n 0 ∷ (drop (n + 1) bytes ++ more)) h (omega (arith, length-take n bytes))
    ∙ commands_from-end (take n bytes) (get_or bytes n 0) (drop (n + 1) bytes ++ more) e

-- a line that is too long
pub commands_from-long : (bytes more : List ℕ) (m n : ℕ) → m ≡ longest_line → m < n → n ≤ length bytes → HasNoEnd (take n bytes)
    → commands_from (in_line []) (bytes ++ more) ≡ command.LineTooLong ∷ []
commands_from-long bytes more m n is long q h =
    let front : HasNoEnd (take m bytes) = subst HasNoEnd (take-take m n bytes (omega arith)) (HasNoEnd-take m (take n bytes) h) in
    let len : length (take m bytes) ≡ m = length-take-le m bytes (omega arith) in
    let next : is_end (get_or bytes m 0) ≡ false =
    subst (λ (b : ℕ). is_end b ≡ false) (get_or-take n bytes m 0 long) (HasNoEnd-at (take n bytes) m h (omega (arith, length-take-le n bytes q))) in
    ap (λ l. commands_from (in_line []) l) (split_more bytes more m (omega arith))
    ∙ commands_from-within [] (take m bytes) (get_or bytes m 0 ∷ (drop (m + 1) bytes ++ more)) front (omega arith)
    ∙ commands_from-beyond (take m bytes) (get_or bytes m 0) (drop (m + 1) bytes ++ more) next (omega arith)

-- a line whose end has not come gives no command
pub commands_from-partial : (bytes : List ℕ) → HasNoEnd bytes → length bytes ≤ longest_line → commands_from (in_line []) bytes ≡ []
commands_from-partial bytes h q =
    ap (λ l. commands_from (in_line []) l) (sym (append-nil bytes)) ∙ commands_from-within [] bytes [] h (omega arith) ∙ commands_from-nil (in_line bytes)

-- ---- after a CR

at_front : (bytes : List ℕ) → 0 < length bytes → bytes ≡ get_or bytes 0 0 ∷ drop 1 bytes
at_front [] q = absurd (omega arith)
at_front (b ∷ bytes) q = refl

pub feed_after_return : (ys : List ℕ) → commands_from after_return (10 ∷ ys) ≡ commands_from (in_line []) ys
unfolding commands_from
feed_after_return ys = refl

pub other_after_return : (b : ℕ) (ys : List ℕ) → eqb b 10 ≡ false → commands_from after_return (b ∷ ys) ≡ commands_from (in_line []) (b ∷ ys)
unfolding commands_from
other_after_return b ys h = rw h refl

pub commands_from-feed : (bytes more : List ℕ) → 0 < length bytes → get_or bytes 0 0 ≡ 10 → commands_from after_return (bytes ++ more) ≡ commands_from (in_line []) (drop 1 bytes ++ more)
commands_from-feed bytes more q e =
    ap (λ l. commands_from after_return (l ++ more)) (at_front bytes q ∙ ap (λ b. b ∷ drop 1 bytes) e) ∙ feed_after_return (drop 1 bytes ++ more)

pub commands_from-no_feed : (bytes more : List ℕ) → 0 < length bytes → (get_or bytes 0 0 ≡ 10 → ⊥) → commands_from after_return (bytes ++ more) ≡ commands_from (in_line []) (bytes ++ more)
commands_from-no_feed bytes more q e =
    ap (λ l. commands_from after_return (l ++ more)) (at_front bytes q)
    ∙ other_after_return (get_or bytes 0 0) (drop 1 bytes ++ more) (ne_eqb (get_or bytes 0 0) 10 e)
    ∙ ap (λ l. commands_from (in_line []) (l ++ more)) (sym (at_front bytes q))

pub commands_from-empty : (r : Reading) (bytes : List ℕ) → eqb (length bytes) 0 ≡ true → commands_from r bytes ≡ []
commands_from-empty r [] h = commands_from-nil r
commands_from-empty r (b ∷ bytes) h = absurd (omega (arith, eqb-true (length (b ∷ bytes)) 0 h))

-- ---- a search for the end of a line

-- no line end is before s, and none from there up to n
pub HasNoEnd-more : (bytes : List ℕ) (s n : ℕ) → s ≤ n → n ≤ length bytes → HasNoEnd (take s bytes) → ((k : ℕ) → s + k < n → is_end (get_or (drop s bytes) k 0) ≡ false) → HasNoEnd (take n bytes)
HasNoEnd-more bytes s n low high h more =
    HasNoEnd-from (take n bytes) (λ j q.
    let below : j < n = omega (arith, length-take n bytes) in
    let passes : is_end (get_or bytes j 0) ≡ false = elim (cases_lt j s) [
      | inl l ↦ subst (λ (b : ℕ). is_end b ≡ false) (get_or-take s bytes j 0 l) (HasNoEnd-at (take s bytes) j h (omega (arith, length-take s bytes)))
      | inr l ↦
          let place : s + (j - s) ≡ j = omega arith in
          subst (λ (b : ℕ). is_end b ≡ false) (get_or-drop s bytes (j - s) 0 ∙ ap (λ k. get_or bytes k 0) place) (more (j - s) (omega arith))
    ] in
    subst (λ (b : ℕ). is_end b ≡ false) (sym (get_or-take n bytes j 0 below)) passes)

pub HasNoEnd-all : (bytes : List ℕ) → HasNoEnd (take (length bytes) bytes) → HasNoEnd bytes
HasNoEnd-all bytes h = subst HasNoEnd (take_all (length bytes) bytes (omega arith)) h

-- ---- a session that takes a piece

fed_from : (r : Reading) (bytes piece more : List ℕ)
    → to_come (fed (record { from = r; bytes = bytes }) piece) more ≡ commands_from r (bytes ++ (piece ++ more))
fed_from (in_line line) bytes piece more = ap (λ l. commands_from (in_line line) l) (append_assoc bytes piece more)
fed_from after_return bytes piece more = ap (λ l. commands_from after_return l) (append_assoc bytes piece more)
fed_from (before_payload w handler n) bytes piece more = ap (λ l. commands_from (before_payload w handler n) l) (append_assoc bytes piece more)
fed_from (in_payload w handler n came) bytes piece more = ap (λ l. commands_from (in_payload w handler n came) l) (append_assoc bytes piece more)
fed_from over bytes piece more = commands_from-over (bytes ++ more) ∙ sym (commands_from-over (bytes ++ (piece ++ more)))

pub to_come-fed : (s : Pending) (piece more : List ℕ) → to_come (fed s piece) more ≡ to_come s (piece ++ more)
to_come-fed s piece more = fed_from s.from s.bytes piece more

-- ---- a payload

completed_before : (w : Access) (handler came : List ℕ) (n x : ℕ) → 1 < n → completed_payload w handler n came x ≡ []
completed_before w handler came n x q = rw (lt-leb n 1 q) refl

after_before : (w : Access) (handler came : List ℕ) (n x : ℕ) → 1 < n → after_payload_byte w handler n came x ≡ in_payload w handler (n - 1) (came ++ x ∷ [])
after_before w handler came n x q = rw (lt-leb n 1 q) refl

-- one byte of a payload that is not the last one
pub payload_step : (w : Access) (handler came : List ℕ) (n x : ℕ) (ys : List ℕ) → 1 < n
    → commands_from (in_payload w handler n came) (x ∷ ys) ≡ commands_from (in_payload w handler (n - 1) (came ++ x ∷ [])) ys
unfolding commands_from
payload_step w handler came n x ys q =
    ap (λ cs. cs ++ commands_from (after_payload_byte w handler n came x) ys) (completed_before w handler came n x q)
    ∙ ap (λ r. commands_from r ys) (after_before w handler came n x q)

payload_last : (w : Access) (handler came : List ℕ) (x : ℕ) (ys : List ℕ)
    → commands_from (in_payload w handler 1 came) (x ∷ ys) ≡ text_command w handler (came ++ x ∷ []) ∷ commands_from (in_line []) ys
unfolding commands_from
payload_last w handler came x ys = refl

-- all the bytes of a payload
pub payload_whole : (w : Access) (handler came xs ys : List ℕ) (n : ℕ) → length xs ≡ n → 0 < n
    → commands_from (in_payload w handler n came) (xs ++ ys) ≡ text_command w handler (came ++ xs) ∷ commands_from (in_line []) ys
payload_whole w handler came [] ys n e q = absurd (omega (arith, e))
payload_whole w handler came (x ∷ []) ys n e q =
    let one : n ≡ 1 = omega (arith, e) in
    ap (λ m. commands_from (in_payload w handler m came) (x ∷ ys)) one ∙ payload_last w handler came x ys
payload_whole w handler came (x ∷ y ∷ xs) ys n e q =
    payload_step w handler came n x (y ∷ xs ++ ys) (omega (arith, e))
    ∙ payload_whole w handler (came ++ x ∷ []) (y ∷ xs) ys (n - 1) (omega (arith, e)) (omega (arith, e))
    ∙ ap (λ t. text_command w handler t ∷ commands_from (in_line []) ys) (append_assoc came (x ∷ []) (y ∷ xs))

-- the first bytes of those that follow are a payload
pub payload_cut : (w : Access) (handler xs more : List ℕ) (n : ℕ) → 0 < n → n ≤ length xs
    → commands_from (in_payload w handler n []) (xs ++ more) ≡ text_command w handler (take n xs) ∷ commands_from (in_line []) (drop n xs ++ more)
payload_cut w handler xs more n q within =
    ap (λ l. commands_from (in_payload w handler n []) l) (ap (λ l. l ++ more) (sym (take-append-drop n xs)) ∙ append_assoc (take n xs) (drop n xs) more)
    ∙ payload_whole w handler [] (take n xs) (drop n xs ++ more) n (length-take-le n xs within) q

-- an incomplete payload
pub payload_part : (w : Access) (handler came xs : List ℕ) (n : ℕ) → length xs < n → commands_from (in_payload w handler n came) xs ≡ []
payload_part w handler came [] n q = commands_from-nil (in_payload w handler n came)
payload_part w handler came (x ∷ xs) n q =
    payload_step w handler came n x xs (omega arith) ∙ payload_part w handler (came ++ x ∷ []) xs (n - 1) (omega arith)

-- ---- a payload after the end of its line

pub feed_before_payload : (w : Access) (handler : List ℕ) (n b : ℕ) (ys : List ℕ) → eqb b 10 ≡ true
    → commands_from (before_payload w handler n) (b ∷ ys) ≡ commands_from (in_payload w handler n []) ys
unfolding commands_from
feed_before_payload w handler n b ys h = rw h refl

pub other_before_payload : (w : Access) (handler : List ℕ) (n b : ℕ) (ys : List ℕ) → eqb b 10 ≡ false
    → commands_from (before_payload w handler n) (b ∷ ys) ≡ commands_from (in_payload w handler n []) (b ∷ ys)
unfolding commands_from
other_before_payload w handler n b ys h = rw h refl

after_no_return : (w : Access) (handler : List ℕ) (n e : ℕ) (ys : List ℕ) → eqb e 13 ≡ false
    → commands_from (payload_after w handler n e) ys ≡ commands_from (in_payload w handler n []) ys
after_no_return w handler n e ys h = rw h refl

after_a_return : (w : Access) (handler : List ℕ) (n e : ℕ) (ys : List ℕ) → eqb e 13 ≡ true
    → commands_from (payload_after w handler n e) ys ≡ commands_from (before_payload w handler n) ys
after_a_return w handler n e ys h = rw h refl

-- a line end of one byte, after which a byte comes
end_of_one : (w : Access) (handler : List ℕ) (n e b : ℕ) (ys : List ℕ) → (eqb e 13 && eqb b 10) ≡ false
    → commands_from (payload_after w handler n e) (b ∷ ys) ≡ commands_from (in_payload w handler n []) (b ∷ ys)
end_of_one w handler n e b ys h = elim (cases_Bool (eqb e 13)) [
  | inl r ↦
      let f : eqb b 10 ≡ false = rw r at h in
      after_a_return w handler n e (b ∷ ys) r ∙ other_before_payload w handler n b ys f
  | inr r ↦ after_no_return w handler n e (b ∷ ys) r
]

end_of_two : (w : Access) (handler : List ℕ) (n e b : ℕ) (ys : List ℕ) → (eqb e 13 && eqb b 10) ≡ true
    → commands_from (payload_after w handler n e) (b ∷ ys) ≡ commands_from (in_payload w handler n []) ys
end_of_two w handler n e b ys h = elim (cases_Bool (eqb e 13)) [
  | inl r ↦
      let f : eqb b 10 ≡ true = rw r at h in
      after_a_return w handler n e (b ∷ ys) r ∙ feed_before_payload w handler n b ys f
  | inr r ↦
      let f : false ≡ true = rw r at h in cc
]

end_length_one : (e b : ℕ) (bs : List ℕ) → (eqb e 13 && eqb b 10) ≡ false → end_length (e ∷ b ∷ bs) ≡ 1
end_length_one e b bs h = rw h refl

end_length_two : (e b : ℕ) (bs : List ℕ) → (eqb e 13 && eqb b 10) ≡ true → end_length (e ∷ b ∷ bs) ≡ 2
end_length_two e b bs h = rw h refl

-- a line end, and a payload of n bytes after it
pub payload_after_end : (w : Access) (handler : List ℕ) (n e : ℕ) (rest more : List ℕ) → 0 < n → end_length (e ∷ rest) + n ≤ length (e ∷ rest)
    → commands_from (payload_after w handler n e) (rest ++ more)
    ≡ text_command w handler (take n (drop (end_length (e ∷ rest)) (e ∷ rest))) ∷ commands_from (in_line []) (drop n (drop (end_length (e ∷ rest)) (e ∷ rest)) ++ more)
payload_after_end w handler n e [] more q within = absurd (omega arith)
payload_after_end w handler n e (b ∷ bs) more q within = elim (cases_Bool (eqb e 13 && eqb b 10)) [
  | inl h ↦
      let len = end_length_two e b bs h in
      rw len (end_of_two w handler n e b (bs ++ more) h ∙ payload_cut w handler bs more n q (omega (arith, len)))
  | inr h ↦
      let len = end_length_one e b bs h in
      rw len (end_of_one w handler n e b (bs ++ more) h ∙ payload_cut w handler (b ∷ bs) more n q (omega (arith, len)))
]

-- too few bytes after the end of a line that announced a payload
pub payload_short : (w : Access) (handler : List ℕ) (n e : ℕ) (ys : List ℕ) → length ys < n → commands_from (payload_after w handler n e) ys ≡ []
payload_short w handler n e [] q = commands_from-nil (payload_after w handler n e)
payload_short w handler n e (b ∷ bs) q = elim (cases_Bool (eqb e 13 && eqb b 10)) [
  | inl h ↦ end_of_two w handler n e b bs h ∙ payload_part w handler [] bs n (omega arith)
  | inr h ↦ end_of_one w handler n e b bs h ∙ payload_part w handler [] (b ∷ bs) n q
]

pub payload_waits : (w : Access) (handler : List ℕ) (n e : ℕ) (rest more : List ℕ) → length (e ∷ rest) + length more < end_length (e ∷ rest) + n
    → commands_from (payload_after w handler n e) (rest ++ more) ≡ []
payload_waits w handler n e [] more q = payload_short w handler n e more (omega arith)
payload_waits w handler n e (b ∷ bs) more q = elim (cases_Bool (eqb e 13 && eqb b 10)) [
  | inl h ↦
      let len = end_length_two e b bs h in
      end_of_two w handler n e b (bs ++ more) h ∙ payload_part w handler [] (bs ++ more) n (omega (arith, len, length-append bs more))
  | inr h ↦
      let len = end_length_one e b bs h in
      end_of_one w handler n e b (bs ++ more) h ∙ payload_part w handler [] (b ∷ bs ++ more) n (omega (arith, len, length-append bs more))
]
