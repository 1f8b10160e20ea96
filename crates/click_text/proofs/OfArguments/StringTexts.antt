-- The text of a configuration string closes each quote and comment that it opens.
use Rattle.std.proofs.Common.{◌≡◌, ℕ, zero, suc, ◌<◌, ◌≤◌, List, [], ◌∷◌, ◌++◌, length, take, drop, Bool, true, false, eqb, refl, sym, ◌∙◌, ap, arith, inl, inr, ◌⊎◌, length-take, length-append}
use Rattle.std.specs.Prelude.{◌&&◌}
use Rattle.std.specs.List.{list_all}
use Rattle.std.proofs.lemmas.Bool.{false≢true, cases_Bool, and_parts, eqb-true, false_from_ne_true}
use Rattle.std.proofs.lemmas.List.{take-append-drop}
use Rattle.click_text.specs.declared.strings.Mode.{Mode}
use Rattle.click_text.specs.declared.strings.Mode.TheVariants as mode
use Rattle.click_text.specs.declared.lexer.Piece.TheVariants as piece
use Rattle.click_text.specs.declared.items.ItemKind.{ItemKind}
use Rattle.click_text.specs.declared.items.ItemKind.TheVariants as kind
use Rattle.click_text.specs.Strings.{mode_after, plain_after, is_outside, depth_after, closes_outermost, closes}
use Rattle.click_text.specs.Pieces.{white, ends_comment, IsPiece}
use Rattle.click_text.specs.Items.{is_plain, ends_quote, IsItem, LongestItem, Item, AreItems, ended, next, bytes_of}
use Rattle.click_text.specs.StringText.{IsStringText, begins_with, opens, leaves_open}
use Rattle.click_text.proofs.OfPieces.LongestPiece.{in_line}
use Rattle.click_text.proofs.OfItems.ItemForms.{Never}
use Rattle.click_text.proofs.OfItems.OneItemList.{items_are_text, items_once}

-- the mode after some bytes
abbrev modes : Mode → List ℕ → Mode
modes m [] = m
modes m (b ∷ p) = modes (mode_after m b) p

modes-append : (m : Mode) (p q : List ℕ) → modes m (p ++ q) ≡ modes (modes m p) q
modes-append m [] q = refl
modes-append m (b ∷ p) q = modes-append (mode_after m b) p q

-- a string closes outside quotes and comments
closed_outside : (m : Mode) (d : ℕ) (p : List ℕ) → closes m d (p ++ 41 ∷ []) ≡ true → is_outside (modes m p) ≡ true
closed_outside m d [] h = let x = and_parts (is_outside m && true) (eqb d 1) h in (and_parts (is_outside m) true x.0).0
closed_outside m d (b ∷ []) h = elim (cases_Bool (closes_outermost m d b)) [
  | inl e ↦ let g = rw e at h in absurd (false≢true g)
  | inr e ↦ let g : closes (mode_after m b) (depth_after m d b) (41 ∷ []) ≡ true = rw e at h in closed_outside (mode_after m b) (depth_after m d b) [] g
]
closed_outside m d (b ∷ c ∷ p) h = elim (cases_Bool (closes_outermost m d b)) [
  | inl e ↦ let g = rw e at h in absurd (false≢true g)
  | inr e ↦ let g : closes (mode_after m b) (depth_after m d b) (c ∷ p ++ 41 ∷ []) ≡ true = rw e at h in closed_outside (mode_after m b) (depth_after m d b) (c ∷ p) g
]

plain_is : (m : Mode) → is_plain m ≡ true → m ≡ mode.Plain
plain_is mode.Plain h = refl
plain_is _ h = cc

-- after the byte that ends a quote, nothing is open
left_plain : (m : Mode) (r : List ℕ) → ends_quote m r ≡ true → modes m r ≡ mode.Plain
left_plain m [] h = absurd (false≢true h)
left_plain m (b ∷ []) h = plain_is (mode_after m b) h
left_plain m (b ∷ c ∷ r) h = elim (cases_Bool (is_plain (mode_after m b))) [
  | inl e ↦ let g = rw e at h in absurd (false≢true g)
  | inr e ↦ let g : ends_quote (mode_after m b) (c ∷ r) ≡ true = rw e at h in left_plain (mode_after m b) (c ∷ r) g
]

-- after the end of a comment, nothing is open
star_or_block : (c : ℕ) → eqb c 47 ≡ false → mode_after mode.Star c ≡ mode_after mode.Block c
star_or_block c h = rw h refl

ended_plain : (r : List ℕ) → ends_comment r ≡ true → modes mode.Block r ≡ mode.Plain
ended_plain [] h = absurd (false≢true h)
ended_plain (b ∷ []) h = absurd (false≢true h)
ended_plain (b ∷ c ∷ []) h = let x = and_parts (eqb b 42) (eqb c 47) h in rw (x.0, x.1) refl
ended_plain (b ∷ c ∷ d ∷ r) h = elim (cases_Bool (eqb b 42)) [
  | inl e ↦ elim (cases_Bool (eqb c 47)) [
    | inl f ↦ let g = rw (e, f) at h in absurd (false≢true g)
    | inr f ↦ let g : ends_comment (c ∷ d ∷ r) ≡ true = rw (e, f) at h in rw (e, star_or_block c f) (ended_plain (c ∷ d ∷ r) g)
  ]
  | inr e ↦ let g : ends_comment (c ∷ d ∷ r) ≡ true = rw e at h in rw e (ended_plain (c ∷ d ∷ r) g)
]

-- a comment up to an LF goes on before it
not_line_feed : (b : ℕ) → in_line b ≡ true → eqb b 10 ≡ false
not_line_feed b h = elim (cases_Bool (eqb b 10)) [ inl e ↦ let g = rw e at h in absurd (false≢true g) | inr e ↦ e ]

line_stays : (r : List ℕ) → list_all in_line r ≡ true → modes mode.Line r ≡ mode.Line
line_stays [] h = refl
line_stays (b ∷ r) h =
    let x = and_parts (in_line b) (list_all in_line r) h in
    rw (not_line_feed b x.0) (line_stays r x.1)

-- a quote that is never ended stays open
abbrev inside : Mode → Bool
inside mode.Double = true
inside mode.Escape = true
inside mode.Single = true
inside mode.Angle = true
inside _ = false

inside_out : (m : Mode) → inside m ≡ true → is_outside m ≡ false
inside_out mode.Double h = refl
inside_out mode.Escape h = refl
inside_out mode.Single h = refl
inside_out mode.Angle h = refl
inside_out _ h = cc

inside_after : (m : Mode) (b : ℕ) → inside m ≡ true → is_plain (mode_after m b) ≡ false → inside (mode_after m b) ≡ true
inside_after mode.Double b h g = elim (cases_Bool (eqb b 34)) [
  | inl e ↦ let f = rw e at g in absurd (false≢true (sym f))
  | inr e ↦ elim (cases_Bool (eqb b 92)) [ inl f ↦ rw (e, f) refl | inr f ↦ rw (e, f) refl ]
]
inside_after mode.Escape b h g = refl
inside_after mode.Single b h g = elim (cases_Bool (eqb b 39)) [
  | inl e ↦ let f = rw e at g in absurd (false≢true (sym f))
  | inr e ↦ rw e refl
]
inside_after mode.Angle b h g = elim (cases_Bool (eqb b 62)) [
  | inl e ↦ let f = rw e at g in absurd (false≢true (sym f))
  | inr e ↦ rw e refl
]
inside_after _ b h g = cc

never_more : (m : Mode) (b : ℕ) (r : List ℕ) → is_plain (mode_after m b) ≡ false → Never m (b ∷ r) → Never (mode_after m b) r
never_more m b r e h zero l = refl
never_more m b [] e h (suc n) l = absurd (omega arith)
never_more m b (c ∷ r) e h (suc n) l = let g = h (suc (suc n)) (omega arith) in rw e at g

never_left : (m : Mode) (r : List ℕ) → inside m ≡ true → Never m r → is_outside (modes m r) ≡ false
never_left m [] i h = inside_out m i
never_left m (b ∷ r) i h =
    let e : is_plain (mode_after m b) ≡ false = h 1 (omega arith) in
    never_left (mode_after m b) r (inside_after m b i e) (never_more m b r e h)

-- a comment that is never ended stays open
abbrev NeverEnds : List ℕ → Type 0
NeverEnds r = (n : ℕ) → n ≤ length r → ends_comment (take n r) ≡ false

never_ends_more : (b c : ℕ) (r : List ℕ) → NeverEnds (b ∷ c ∷ r) → NeverEnds (c ∷ r)
never_ends_more b c r h zero l = refl
never_ends_more b c r h (suc zero) l = refl
never_ends_more b c [] h (suc (suc n)) l = absurd (omega arith)
never_ends_more b c (d ∷ r) h (suc (suc n)) l =
    let e : (eqb b 42 && eqb c 47) ≡ false = h 2 (omega arith) in
    let g = h (suc (suc (suc n))) (omega arith) in rw e at g

block_or_star : (b : ℕ) → is_outside (mode_after mode.Block b) ≡ false
block_or_star b = elim (cases_Bool (eqb b 42)) [ inl e ↦ rw e refl | inr e ↦ rw e refl ]

never_ended : (r : List ℕ) → NeverEnds r → is_outside (modes mode.Block r) ≡ false
never_ended [] h = refl
never_ended (b ∷ []) h = block_or_star b
never_ended (b ∷ c ∷ r) h =
    let g = never_ended (c ∷ r) (never_ends_more b c r h) in
    elim (cases_Bool (eqb b 42)) [
      | inl e ↦ elim (cases_Bool (eqb c 47)) [
        | inl f ↦ let i = h 2 (omega arith) in let j = rw (e, f) at i in absurd (false≢true (sym j))
        | inr f ↦ rw (e, star_or_block c f) g
      ]
      | inr e ↦ rw e g
    ]

-- the mode after one item
white_plain : (b : ℕ) → white b ≡ true → plain_after b ≡ mode.Plain
white_plain b h = elim (cases_Bool (eqb b 34)) [
  | inl e ↦ let f = rw (eqb-true b 34 e) at h in cc
  | inr e ↦ elim (cases_Bool (eqb b 39)) [
    | inl f ↦ let g = rw (eqb-true b 39 f) at h in cc
    | inr f ↦ elim (cases_Bool (eqb b 47)) [
      | inl g ↦ let i = rw (eqb-true b 47 g) at h in cc
      | inr g ↦ elim (cases_Bool (eqb b 92)) [
        | inl i ↦ let j = rw (eqb-true b 92 i) at h in cc
        | inr i ↦ rw (e, f, g, i) refl
      ]
    ]
  ]
]

-- what holds after an item: the text ends, or its end is outside quotes and comments
abbrev Goes : List ℕ → Type 0
Goes rest = (rest ≡ []) ⊎ (is_outside (modes mode.Plain rest) ≡ true)

goes_from : (p rest : List ℕ) → modes mode.Plain p ≡ mode.Plain → is_outside (modes mode.Plain (p ++ rest)) ≡ true → Goes rest
goes_from p rest e h = let g = rw (modes-append mode.Plain p rest, e) at h in inr g

line_goes : (p : List ℕ) (rest : List ℕ) → modes mode.Plain p ≡ mode.Line → ((c : ℕ) (s : List ℕ) → rest ≡ c ∷ s → eqb c 10 ≡ true) → is_outside (modes mode.Plain (p ++ rest)) ≡ true → Goes rest
line_goes p [] e f h = inl refl
line_goes p (c ∷ s) e f h =
    let g : is_outside (modes mode.Line (c ∷ s)) ≡ true = rw (modes-append mode.Plain p (c ∷ s), e) at h in
    let i = f c s refl in
    let j : c ≡ 10 = eqb-true c 10 i in
    inr (rw j (rw j at g))

list_all-append : (p : ℕ → Bool) (r s : List ℕ) → list_all p r ≡ true → list_all p s ≡ true → list_all p (r ++ s) ≡ true
list_all-append p [] s h g = g
list_all-append p (b ∷ r) s h g = let x = and_parts (p b) (list_all p r) h in rw (x.0, list_all-append p r s x.1 g) refl

take_one_more : (p : List ℕ) (c : ℕ) (s : List ℕ) → take (suc (length p)) (p ++ c ∷ s) ≡ p ++ c ∷ []
take_one_more [] c s = refl
take_one_more (b ∷ p) c s = ap (λ r. b ∷ r) (take_one_more p c s)

-- a comment up to an LF ends there
line_ends : (p : List ℕ) (c : ℕ) (s : List ℕ) → IsPiece piece.LineComment p → ((j : ItemKind) (m : ℕ) → length p < m → m ≤ length (p ++ c ∷ s) → IsItem j (take m (p ++ c ∷ s)) → ⊥) → eqb c 10 ≡ true
line_ends p c s (r, e, a) h = elim (cases_Bool (eqb c 10)) [
  | inl f ↦ f
  | inr f ↦
      let g : list_all in_line (c ∷ []) ≡ true = rw f refl in
      let i : IsItem kind.Comment (take (suc (length p)) (p ++ c ∷ s)) = rw take_one_more (inl (r ++ c ∷ [], ap (λ q. q ++ c ∷ []) e, list_all-append in_line r (c ∷ []) a g)) in
      absurd (h kind.Comment (suc (length p)) (omega arith) (omega (arith, length-append p (c ∷ s))) i)
]

abbrev NoLonger : ℕ → List ℕ → Type 0
NoLonger b rest = (j : ItemKind) (m : ℕ) → 1 < m → m ≤ length (b ∷ rest) → IsItem j (take m (b ∷ rest)) → ⊥

never_double : (rest : List ℕ) → NoLonger 34 rest → Never mode.Double rest
never_double rest h zero l = refl
never_double rest h (suc n) l = false_from_ne_true _ (λ e. h kind.Double (suc (suc n)) (omega arith) (omega arith) (take (suc n) rest, refl, e))

never_single : (rest : List ℕ) → NoLonger 39 rest → Never mode.Single rest
never_single rest h zero l = refl
never_single rest h (suc n) l = false_from_ne_true _ (λ e. h kind.Single (suc (suc n)) (omega arith) (omega arith) (take (suc n) rest, refl, e))

never_angle : (rest : List ℕ) → NoLonger 92 (60 ∷ rest) → Never mode.Angle rest
never_angle rest h n l = false_from_ne_true _ (λ e. h kind.Hexadecimal (suc (suc n)) (omega arith) (omega arith) (take n rest, refl, e))

never_comment : (rest : List ℕ) → NoLonger 47 (42 ∷ rest) → NeverEnds rest
never_comment rest h n l = false_from_ne_true _ (λ e. h kind.Comment (suc (suc n)) (omega arith) (omega arith) (inr (take n rest, refl, e)))

backslash_step : (rest : List ℕ) → NoLonger 92 rest → is_outside (modes mode.Plain (92 ∷ rest)) ≡ true → Goes rest × (begins_with 60 rest ≡ false)
backslash_step [] g h = (inl refl, refl)
backslash_step (c ∷ rest) g h = elim (cases_Bool (eqb c 60)) [
  | inl e ↦
      let f = eqb-true c 60 e in
      let i : NoLonger 92 (60 ∷ rest) = rw f at g in
      let j : is_outside (modes mode.Angle rest) ≡ true = rw f at h in
      absurd (false≢true (sym (never_left mode.Angle rest refl (never_angle rest i)) ∙ j))
  | inr e ↦ let j : is_outside (modes mode.Plain (c ∷ rest)) ≡ true = rw e at h in (inr j, e)
]

slash_step : (rest : List ℕ) → NoLonger 47 rest → is_outside (modes mode.Plain (47 ∷ rest)) ≡ true → Goes rest × (begins_with 42 rest ≡ false)
slash_step [] g h = (inl refl, refl)
slash_step (c ∷ rest) g h = elim (cases_Bool (eqb c 47)) [
  | inl e ↦
      let f = eqb-true c 47 e in
      let i : NoLonger 47 (47 ∷ rest) = rw f at g in
      absurd (i kind.Comment 2 (omega arith) (omega arith) (inl ([], refl, refl)))
  | inr e ↦ elim (cases_Bool (eqb c 42)) [
    | inl f ↦
        let i = eqb-true c 42 f in
        let j : NoLonger 47 (42 ∷ rest) = rw i at g in
        let k : is_outside (modes mode.Block rest) ≡ true = rw i at h in
        absurd (false≢true (sym (never_ended rest (never_comment rest j)) ∙ k))
    | inr f ↦ let j : is_outside (modes mode.Plain (c ∷ rest)) ≡ true = rw e (rw (e, f) at h) in (inr j, f)
  ]
]

byte_step : (b : ℕ) (rest : List ℕ) → NoLonger b rest → is_outside (modes mode.Plain (b ∷ rest)) ≡ true → Goes rest × (opens (kind.Byte b) rest ≡ false)
byte_step b rest g h = elim (cases_Bool (eqb b 34)) [
  | inl e ↦
      let f = eqb-true b 34 e in
      let i : NoLonger 34 rest = rw f at g in
      let j : is_outside (modes mode.Double rest) ≡ true = rw f at h in
      absurd (false≢true (sym (never_left mode.Double rest refl (never_double rest i)) ∙ j))
  | inr e ↦ elim (cases_Bool (eqb b 39)) [
    | inl f ↦
        let k = eqb-true b 39 f in
        let i : NoLonger 39 rest = rw k at g in
        let j : is_outside (modes mode.Single rest) ≡ true = rw k at h in
        absurd (false≢true (sym (never_left mode.Single rest refl (never_single rest i)) ∙ j))
    | inr f ↦ elim (cases_Bool (eqb b 92)) [
      | inl i ↦
          let k = eqb-true b 92 i in
          let s = backslash_step rest (rw k at g) (rw k at h) in (s.0, rw (e, f, i) s.1)
      | inr i ↦ elim (cases_Bool (eqb b 47)) [
        | inl j ↦
            let k = eqb-true b 47 j in
            let s = slash_step rest (rw k at g) (rw k at h) in (s.0, rw (e, f, i, j) s.1)
        | inr j ↦ let k : is_outside (modes mode.Plain rest) ≡ true = rw (e, f, j, i) at h in (inr k, rw (e, f, i, j) refl)
      ]
    ]
  ]
]

abbrev Longest_of : List ℕ → List ℕ → Type 0
Longest_of p rest = (j : ItemKind) (m : ℕ) → length p < m → m ≤ length (p ++ rest) → IsItem j (take m (p ++ rest)) → ⊥

item_step : (k : ItemKind) (p rest : List ℕ) → IsItem k p → Longest_of p rest → is_outside (modes mode.Plain (p ++ rest)) ≡ true → Goes rest × (opens k rest ≡ false)
item_step kind.White p rest (b, w, e) g h =
    let f : modes mode.Plain p ≡ mode.Plain = rw e (white_plain b w) in (goes_from p rest f h, refl)
item_step kind.Comment p rest (inl (r, e, a)) g h =
    let f : modes mode.Plain p ≡ mode.Line = rw e (line_stays r a) in
    (line_goes p rest f (λ c s i. line_ends p c s (r, e, a) (rw i at g)) h, refl)
item_step kind.Comment p rest (inr (r, e, a)) g h = let f : modes mode.Plain p ≡ mode.Plain = rw e (ended_plain r a) in (goes_from p rest f h, refl)
item_step kind.Double p rest (r, e, a) g h = let f : modes mode.Plain p ≡ mode.Plain = rw e (left_plain mode.Double r a) in (goes_from p rest f h, refl)
item_step kind.Single p rest (r, e, a) g h = let f : modes mode.Plain p ≡ mode.Plain = rw e (left_plain mode.Single r a) in (goes_from p rest f h, refl)
item_step kind.Hexadecimal p rest (r, e, a) g h = let f : modes mode.Plain p ≡ mode.Plain = rw e (left_plain mode.Angle r a) in (goes_from p rest f h, refl)
item_step (kind.Byte b) p rest (w, e) g h = let i : Longest_of (b ∷ []) rest = rw e at g in byte_step b rest i (rw e at h)

longest_of : (text : List ℕ) (k : ItemKind) (n : ℕ) → LongestItem text k n → Longest_of (take n text) (drop n text)
longest_of text k n l j m a b f =
    let t : take n text ++ drop n text ≡ text = take-append-drop n text in
    let w = l.within in
    l.longest j m (omega (arith, length-take n text)) (rw t at b) (rw t at f)

nothing_left : {text : List ℕ} {items : List Item} → AreItems text items → is_outside (modes mode.Plain text) ≡ true → leaves_open items ≡ false
nothing_left ended h = refl
nothing_left (next text k n items l r) h =
    let t : take n text ++ drop n text ≡ text = take-append-drop n text in
    let s = item_step k (take n text) (drop n text) l.form (longest_of text k n l) (rw t h) in
    let b : bytes_of items ≡ drop n text = items_are_text r in
    rw (b, s.1) (elim s.0 [
      | inl e ↦ let d : items ≡ [] = items_once (rw e at r) ended in rw d refl
      | inr e ↦ nothing_left r e
    ])

pub nothing_open : (text : List ℕ) (items : List Item) → IsStringText text → AreItems text items → leaves_open items ≡ false
nothing_open text items h r = nothing_left r (closed_outside mode.Plain 1 text h)
