-- Lemmas about texts that are cut at a byte.
use Rattle.std.proofs.Common.{◌≡◌, ℕ, ◌==◌, Bool, true, false, not, ◌&&◌, List, [], ◌∷◌, ◌++◌, refl, sym, ◌∙◌}
use Rattle.std.proofs.lemmas.Bool.{and_parts, and_from, ne_eqb, eq-eqb}
use Rattle.click_lines.specs.Spelling.{behind, joined}

-- the text does not contain the byte
abbrev pub lacks : ℕ → List ℕ → Bool
lacks c [] = true
lacks c (b ∷ bs) = not (b == c) && lacks c bs

abbrev pub AllLack : ℕ → List (List ℕ) → Type 0
AllLack c [] = Unit {0}
AllLack c (f ∷ fs) = (lacks c f ≡ true) × AllLack c fs

-- the text is empty or begins with the byte
abbrev pub Begins : ℕ → List ℕ → Type 0
Begins c [] = Unit {0}
Begins c (b ∷ bs) = b ≡ c

pub unlike : (b c : ℕ) → not (b == c) ≡ true → b ≡ c → ⊥
unlike b c test e = let same : (b == c) ≡ true = eq-eqb b c e in let bad : false ≡ true = rw same at test in cc

pub other : (b c : ℕ) → (b ≡ c → ⊥) → not (b == c) ≡ true
other b c differ = rw (ne_eqb b c differ) refl

pub lacks-append : (c : ℕ) (x y : List ℕ) → lacks c x ≡ true → lacks c y ≡ true → lacks c (x ++ y) ≡ true
lacks-append c [] y h k = k
lacks-append c (b ∷ x) y h k =
    let parts = and_parts (not (b == c)) (lacks c x) h in
    and_from (not (b == c)) (lacks c (x ++ y)) parts.0 (lacks-append c x y parts.1 k)

lacks-behind : (c d : ℕ) (fs : List (List ℕ)) → not (d == c) ≡ true → AllLack c fs → lacks c (behind d fs) ≡ true
lacks-behind c d [] apart h = refl
lacks-behind c d (f ∷ fs) apart h =
    and_from (not (d == c)) (lacks c (f ++ behind d fs)) apart (lacks-append c f (behind d fs) h.0 (lacks-behind c d fs apart h.1))

pub lacks-joined : (c d : ℕ) (fs : List (List ℕ)) → not (d == c) ≡ true → AllLack c fs → lacks c (joined d fs) ≡ true
lacks-joined c d [] apart h = refl
lacks-joined c d (f ∷ fs) apart h = lacks-append c f (behind d fs) h.0 (lacks-behind c d fs apart h.1)

clash : (c b : ℕ) (x y y' : List ℕ) → lacks c (b ∷ x) ≡ true → Begins c y → y ≡ b ∷ (x ++ y') → ⊥
clash c b x [] y' h begins e = cc
clash c b x (a ∷ y) y' h begins e = let same : a ≡ b = cc in unlike b c (and_parts (not (b == c)) (lacks c x) h).0 (sym same ∙ begins)

-- Two texts without the byte, each followed by nothing or by the byte, are equal if the whole texts
-- are. What follows them is equal too.
pub cut_once : (c : ℕ) (x x' y y' : List ℕ) → lacks c x ≡ true → lacks c x' ≡ true → Begins c y → Begins c y' → x ++ y ≡ x' ++ y' → (x ≡ x') × (y ≡ y')
cut_once c [] [] y y' h h' k k' e = (refl, e)
cut_once c [] (b ∷ x') y y' h h' k k' e = absurd (clash c b x' y y' h' k e)
cut_once c (b ∷ x) [] y y' h h' k k' e = absurd (clash c b x y' y h k' (sym e))
cut_once c (b ∷ x) (b' ∷ x') y y' h h' k k' e =
    let first : b ≡ b' = cc in
    let rest : x ++ y ≡ x' ++ y' = cc in
    let more = cut_once c x x' y y' (and_parts (not (b == c)) (lacks c x) h).1 (and_parts (not (b' == c)) (lacks c x') h').1 k k' rest in
    let tails : x ≡ x' = more.0 in (cc, more.1)

begins : (c : ℕ) (fs : List (List ℕ)) → Begins c (behind c fs)
begins c [] = tt
begins c (f ∷ fs) = refl

behind_once : (c : ℕ) (fs gs : List (List ℕ)) → AllLack c fs → AllLack c gs → behind c fs ≡ behind c gs → fs ≡ gs
behind_once c [] [] h k e = refl
behind_once c [] (g ∷ gs) h k e = absurd (let bad : [] ≡ c ∷ (g ++ behind c gs) = e in cc)
behind_once c (f ∷ fs) [] h k e = absurd (let bad : c ∷ (f ++ behind c fs) ≡ [] = e in cc)
behind_once c (f ∷ fs) (g ∷ gs) h k e =
    let whole : c ∷ (f ++ behind c fs) ≡ c ∷ (g ++ behind c gs) = e in
    let rest : f ++ behind c fs ≡ g ++ behind c gs = cc in
    let one = cut_once c f g (behind c fs) (behind c gs) h.0 k.0 (begins c fs) (begins c gs) rest in
    let first : f ≡ g = one.0 in
    let more : fs ≡ gs = behind_once c fs gs h.1 k.1 one.1 in
    cc

-- a list of one or more parts without the byte is determined by the text that joins them with it
pub joined_once : (c : ℕ) (f g : List ℕ) (fs gs : List (List ℕ)) → AllLack c (f ∷ fs) → AllLack c (g ∷ gs) → joined c (f ∷ fs) ≡ joined c (g ∷ gs) → (f ≡ g) × (fs ≡ gs)
joined_once c f g fs gs h k e =
    let one = cut_once c f g (behind c fs) (behind c gs) h.0 k.0 (begins c fs) (begins c gs) e in
    (one.0, behind_once c fs gs h.1 k.1 one.1)
