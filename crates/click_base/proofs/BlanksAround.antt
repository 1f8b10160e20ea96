-- Lemmas about the blanks at the ends of a text.
use Rattle.std.proofs.Common.{◌≡◌, ℕ, List, [], ◌∷◌, ◌++◌, reverse, true, false, refl, sym, ap, ◌∙◌, append-nil, inl, inr}
use Rattle.std.specs.List.{list_all}
use Rattle.std.proofs.lemmas.Bool.{cases_Bool}
use Rattle.std.proofs.lemmas.List.{reverse-append, reverse-reverse}
use Rattle.std.proofs.lemmas.List.Folds.{list_all-append}
use Rattle.std.specs.Prelude.{if◌then◌else◌}
use Rattle.click_base.specs.Blanks.{is_blank, without_front, trimmed}

-- the blanks that `without_front` leaves out
front_of : List ℕ → List ℕ
front_of [] = []
front_of (b ∷ bs) = if is_blank b then b ∷ front_of bs else []

front-blank : (bs : List ℕ) → list_all is_blank (front_of bs) ≡ true
unfolding front_of
front-blank [] = refl
front-blank (b ∷ bs) = elim (cases_Bool (is_blank b)) [
  | inl t ↦ let rest = front-blank bs in rw (t, t, rest) refl
  | inr f ↦ rw f refl
]

front-cut : (bs : List ℕ) → front_of bs ++ without_front bs ≡ bs
unfolding front_of
front-cut [] = refl
front-cut (b ∷ bs) = elim (cases_Bool (is_blank b)) [
  | inl t ↦ let rest = front-cut bs in rw t (ap (λ l. b ∷ l) rest)
  | inr f ↦ rw f refl
]

-- what `without_front` keeps does not begin with a blank
begins : (bs rest : List ℕ) (b : ℕ) → without_front bs ≡ b ∷ rest → is_blank b ≡ false
begins [] rest b e = cc
begins (x ∷ xs) rest b e = elim (cases_Bool (is_blank x)) [
  | inl t ↦ let f = rw t at e in begins xs rest b f
  | inr t ↦ let f = rw t at e in let same : x ≡ b = cc in sym (ap is_blank same) ∙ t
]

all-reverse : (bs : List ℕ) → list_all is_blank bs ≡ true → list_all is_blank (reverse bs) ≡ true
all-reverse [] h = refl
all-reverse (b ∷ bs) h = elim (cases_Bool (is_blank b)) [
  | inl t ↦
      let more = rw t at h in
      let rest = all-reverse bs more in
      ap (list_all is_blank) (reverse-append (b ∷ []) bs) ∙ list_all-append is_blank (reverse bs) (b ∷ []) ∙ rw (rest, t) refl
  | inr f ↦ let g = rw f at h in cc
]

-- the blanks that `trimmed` leaves out at the back
back_of : List ℕ → List ℕ
back_of bs = reverse (front_of (reverse (without_front bs)))

back-cut : (bs : List ℕ) → trimmed bs ++ back_of bs ≡ without_front bs
unfolding back_of
back-cut bs =
    let r = reverse (without_front bs) in
    sym (reverse-append (front_of r) (without_front r)) ∙ ap reverse (front-cut r) ∙ reverse-reverse (without_front bs)

whole : (bs : List ℕ) → bs ≡ front_of bs ++ (trimmed bs ++ back_of bs)
whole bs = sym (front-cut bs) ∙ ap (λ l. front_of bs ++ l) (sym (back-cut bs))

back-blank : (bs : List ℕ) → list_all is_blank (back_of bs) ≡ true
unfolding back_of
back-blank bs = all-reverse (front_of (reverse (without_front bs))) (front-blank (reverse (without_front bs)))

pub left_out : (text : List ℕ) → (front : List ℕ) × (back : List ℕ) × (list_all is_blank front ≡ true) × (list_all is_blank back ≡ true) × (text ≡ front ++ (trimmed text ++ back))
left_out text = (front_of text, back_of text, front-blank text, back-blank text, whole text)

pub first : (text rest : List ℕ) (b : ℕ) → trimmed text ≡ b ∷ rest → is_blank b ≡ false
first text rest b e = begins text (rest ++ back_of text) b (sym (back-cut text) ∙ ap (λ l. l ++ back_of text) e)

pub last : (text rest : List ℕ) (b : ℕ) → trimmed text ≡ rest ++ (b ∷ []) → is_blank b ≡ false
last text rest b e =
    let r = reverse (without_front text) in
    begins r (reverse rest) b (sym (reverse-reverse (without_front r)) ∙ ap reverse e ∙ reverse-append rest (b ∷ []))

-- ---- a text with blanks around it

passed : (front text : List ℕ) → list_all is_blank front ≡ true → without_front (front ++ text) ≡ without_front text
passed [] text h = refl
passed (b ∷ front) text h = elim (cases_Bool (is_blank b)) [
  | inl t ↦ let more = rw t at h in rw t (passed front text more)
  | inr f ↦ let g = rw f at h in cc
]

kept : (text : List ℕ) → ((b : ℕ) (rest : List ℕ) → text ≡ b ∷ rest → is_blank b ≡ false) → without_front text ≡ text
kept [] h = refl
kept (b ∷ text) h = let f = h b text refl in rw f refl

begins_so : (b : ℕ) (text back : List ℕ) → is_blank b ≡ false → without_front (b ∷ text ++ back) ≡ b ∷ text ++ back
begins_so b text back f = rw f refl

turned : (text : List ℕ) → ((b : ℕ) (rest : List ℕ) → text ≡ rest ++ (b ∷ []) → is_blank b ≡ false) → (b : ℕ) (rest : List ℕ) → reverse text ≡ b ∷ rest → is_blank b ≡ false
turned text h b rest e = h b (reverse rest) (sym (reverse-reverse text) ∙ ap reverse e ∙ reverse-append (b ∷ []) rest)

trimmed-back : (text back : List ℕ) → list_all is_blank back ≡ true → ((b : ℕ) (rest : List ℕ) → text ≡ rest ++ (b ∷ []) → is_blank b ≡ false)
    → reverse (without_front (reverse (text ++ back))) ≡ text
trimmed-back text back h last =
    ap (λ l. reverse (without_front l)) (reverse-append text back)
    ∙ ap reverse (passed (reverse back) (reverse text) (all-reverse back h) ∙ kept (reverse text) (turned text last))
    ∙ reverse-reverse text

nothing : (back : List ℕ) → list_all is_blank back ≡ true → without_front back ≡ []
nothing back h = ap without_front (sym (append-nil back)) ∙ passed back [] h

inner : (text back : List ℕ) → list_all is_blank back ≡ true → ((b : ℕ) (rest : List ℕ) → text ≡ b ∷ rest → is_blank b ≡ false)
    → ((b : ℕ) (rest : List ℕ) → text ≡ rest ++ (b ∷ []) → is_blank b ≡ false) → trimmed (text ++ back) ≡ text
inner [] back h first last = ap (λ l. reverse (without_front (reverse l))) (nothing back h)
inner (b ∷ text) back h first last =
    ap (λ l. reverse (without_front (reverse l))) (begins_so b text back (first b text refl)) ∙ trimmed-back (b ∷ text) back h last

pub around : (front text back : List ℕ) → list_all is_blank front ≡ true → list_all is_blank back ≡ true
    → ((b : ℕ) (rest : List ℕ) → text ≡ b ∷ rest → is_blank b ≡ false) → ((b : ℕ) (rest : List ℕ) → text ≡ rest ++ (b ∷ []) → is_blank b ≡ false)
    → trimmed (front ++ (text ++ back)) ≡ text
around front text back h g first last = ap (λ l. reverse (without_front (reverse l))) (passed front (text ++ back) h) ∙ inner text back g first last
