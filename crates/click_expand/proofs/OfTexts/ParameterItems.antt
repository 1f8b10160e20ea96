-- A text begins with a parameter exactly if its items do.
use Rattle.std.proofs.Common.{◌≡◌, inl, inr, ℕ, zero, suc, ◌+◌, ◌-◌, ◌<◌, ◌≤◌, List, [], ◌∷◌, ◌++◌, length, take, drop, Bool, true, false, cond, eqb, Option, Some, None, refl, sym, ap, ◌∙◌, subst, arith, length-take}
use Rattle.std.specs.Prelude.{if◌then◌else◌}
use Rattle.std.specs.List.{prefix_len}
use Rattle.std.proofs.lemmas.Bool.{cases_Bool, false≢true, ne_eqb}
use Rattle.std.proofs.lemmas.Bool.Decides.{nat_tests}
use Rattle.std.proofs.lemmas.List.Sums.{prefix_len-le-length}
use Rattle.std.proofs.lemmas.List.Folds.{length-prefix_len}
use Rattle.click_text.specs.declared.items.ItemKind.{ItemKind}
use Rattle.click_text.specs.declared.items.ItemKind.TheVariants as kind
use Rattle.click_text.specs.Pieces.{white, name_byte}
use Rattle.click_text.specs.Items.{IsItem, LongestItem, Item, item, AreItems, ended, next, bytes_of}
use Rattle.click_text.proofs.OfItems.ItemForms.{no_bytes}
use Rattle.click_expand.specs.Parameters.{Formal, byte_of, byte_passes, is_byte, is_name_item, name_run, formal, is_closed, formal_behind, formal_at, value_by, found_bytes, found_size, replaced}
use Rattle.click_expand.specs.kept.Texts.{formal_run, begins_with, formal_after, formal_in}

-- A test that fails for each byte with which an item of another kind begins.
pub record Plain (T : ℕ → Bool) : Type 0 where
  pub double : T 34 ≡ false
  pub single : T 39 ≡ false
  pub slash : T 47 ≡ false
  pub back : T 92 ≡ false
  pub blank : (b : ℕ) → white b ≡ true → T b ≡ false

name-blank : (b : ℕ) → white b ≡ true → name_byte b ≡ false
name-blank b h = grind (arith, nat_tests)

dollar-blank : (b : ℕ) → white b ≡ true → eqb 36 b ≡ false
dollar-blank b h = grind (arith, nat_tests)

open-blank : (b : ℕ) → white b ≡ true → eqb 123 b ≡ false
open-blank b h = grind (arith, nat_tests)

close-blank : (b : ℕ) → white b ≡ true → eqb 125 b ≡ false
close-blank b h = grind (arith, nat_tests)

plain-name : Plain name_byte
plain-name = record { double = refl; single = refl; slash = refl; back = refl; blank = name-blank }

plain-dollar : Plain (eqb 36)
plain-dollar = record { double = refl; single = refl; slash = refl; back = refl; blank = dollar-blank }

plain-open : Plain (eqb 123)
plain-open = record { double = refl; single = refl; slash = refl; back = refl; blank = open-blank }

plain-close : Plain (eqb 125)
plain-close = record { double = refl; single = refl; slash = refl; back = refl; blank = close-blank }

module _ (T : ℕ → Bool) (p : Plain T) where
  -- the test of an item is the test of its first byte
  same-head : (k : ItemKind) (b : ℕ) (r : List ℕ) → IsItem k (b ∷ r) → byte_passes T (byte_of k) ≡ T b
  same-head kind.White b r (x, w, e) = let f : x ≡ b = cc in sym (p.blank b (subst (λ y. white y ≡ true) f w))
  same-head kind.Comment b r (inl (q, e, a)) = let f : 47 ≡ b = cc in sym p.slash ∙ ap T f
  same-head kind.Comment b r (inr (q, e, a)) = let f : 47 ≡ b = cc in sym p.slash ∙ ap T f
  same-head kind.Double b r (q, e, a) = let f : 34 ≡ b = cc in sym p.double ∙ ap T f
  same-head kind.Single b r (q, e, a) = let f : 39 ≡ b = cc in sym p.single ∙ ap T f
  same-head kind.Hexadecimal b r (q, e, a) = let f : 92 ≡ b = cc in sym p.back ∙ ap T f
  same-head (kind.Byte x) b r (w, e) = let f : x ≡ b = cc in ap T f

  alone-by : (x b : ℕ) (r : List ℕ) → b ∷ r ≡ x ∷ [] → r ≡ []
  alone-by x b r e = cc

  -- an item that passes is one byte
  alone : (k : ItemKind) (b : ℕ) (r : List ℕ) → IsItem k (b ∷ r) → byte_passes T (byte_of k) ≡ true → r ≡ []
  alone kind.White b r i h = absurd (false≢true h)
  alone kind.Comment b r i h = absurd (false≢true h)
  alone kind.Double b r i h = absurd (false≢true h)
  alone kind.Single b r i h = absurd (false≢true h)
  alone kind.Hexadecimal b r i h = absurd (false≢true h)
  alone (kind.Byte x) b r (w, e) h = alone-by x b r e

-- The first item of a text, and its first byte.
pub record First (text : List ℕ) (i : Item) (items : List Item) : Type 0 where
  pub byte : ℕ
  pub rest : List ℕ
  pub is : text ≡ byte ∷ rest
  pub same : (T : ℕ → Bool) → Plain T → byte_passes T (byte_of i.kind) ≡ T byte
  pub alone : (T : ℕ → Bool) → Plain T → T byte ≡ true → (i.bytes ≡ byte ∷ []) × AreItems rest items

one-long : (n : ℕ) (t : List ℕ) → n ≤ length t → take n t ≡ [] → n ≡ 0
one-long n t l e = let h = ap length e in omega (arith, h, l, length-take n t)

alone-first : (b n : ℕ) (t : List ℕ) (items : List Item) → n ≡ 0 → AreItems (drop n t) items → (b ∷ take n t ≡ b ∷ []) × AreItems t items
alone-first b n t items e r = (ap (λ m. b ∷ take m t) e, subst (λ m. AreItems (drop m t) items) e r)

first-by : (text : List ℕ) (k : ItemKind) (n : ℕ) (items : List Item) → LongestItem text k n → AreItems (drop n text) items → First text (item k (take n text)) items
first-by text k zero items l r = absurd (no_bytes k l.form)
first-by [] k (suc n) items l r = absurd (no_bytes k l.form)
first-by (b ∷ t) k (suc n) items l r = record {
  byte = b;
  rest = t;
  is = refl;
  same = λ T p. same-head T p k b (take n t) l.form;
  alone = λ T p h. alone-first b n t items
      (let w = l.within in one-long n t (omega (arith, w)) (alone T p k b (take n t) l.form (same-head T p k b (take n t) l.form ∙ h))) r;
}

pub first-of : {text : List ℕ} {all : List Item} → AreItems text all → (i : Item) (items : List Item) → all ≡ i ∷ items → First text i items
first-of ended i items e = absurd (cc e)
first-of (next text k n rest l r) i items e =
    let f : item k (take n text) ≡ i = cc in
    let g : rest ≡ items = cc in
    subst (λ x. First text x items) f (subst (λ x. First text (item k (take n text)) x) g (first-by text k n rest l r))

pub none-of : {text : List ℕ} {all : List Item} → AreItems text all → all ≡ [] → text ≡ []
none-of ended e = refl
none-of (next text k n rest l r) e = absurd (cc e)

-- A text begins with as many name bytes as its items do.
record Run (text : List ℕ) (items : List Item) : Type 0 where
  pub same : prefix_len is_name_item items ≡ prefix_len name_byte text
  pub bytes : bytes_of (take (prefix_len is_name_item items) items) ≡ take (prefix_len name_byte text) text
  pub rest : AreItems (drop (prefix_len name_byte text) text) (drop (prefix_len is_name_item items) items)

run-none : (text : List ℕ) → text ≡ [] → Run text []
run-none text e = subst (λ t. Run t []) (sym e) (record { same = refl; bytes = refl; rest = ended })

run-stops : (b : ℕ) (t : List ℕ) (i : Item) (items : List Item) → is_name_item i ≡ false → name_byte b ≡ false → AreItems (b ∷ t) (i ∷ items) → Run (b ∷ t) (i ∷ items)
run-stops b t i items e f h =
    let x : prefix_len is_name_item (i ∷ items) ≡ 0 = ap (λ z. cond z (1 + prefix_len is_name_item items) 0) e in
    let y : prefix_len name_byte (b ∷ t) ≡ 0 = ap (λ z. cond z (1 + prefix_len name_byte t) 0) f in
    record {
      same = x ∙ sym y;
      bytes = ap (λ n. bytes_of (take n (i ∷ items))) x ∙ sym (ap (λ n. take n (b ∷ t)) y);
      rest = subst (λ n. AreItems (drop n (b ∷ t)) (drop (prefix_len is_name_item (i ∷ items)) (i ∷ items))) (sym y) (subst (λ n. AreItems (b ∷ t) (drop n (i ∷ items))) (sym x) h);
    }

one-more : (n : ℕ) → 1 + n ≡ suc n
one-more n = omega arith

suc-eqb : (n : ℕ) → eqb (suc n) 0 ≡ false
suc-eqb n = ne_eqb (suc n) 0 (λ e. omega (arith, e))

run-more : (b : ℕ) (t : List ℕ) (i : Item) (items : List Item) → is_name_item i ≡ true → name_byte b ≡ true → i.bytes ≡ b ∷ [] → Run t items → Run (b ∷ t) (i ∷ items)
run-more b t i items e f g r =
    let x : prefix_len is_name_item (i ∷ items) ≡ suc (prefix_len is_name_item items) = ap (λ z. cond z (1 + prefix_len is_name_item items) 0) e ∙ one-more (prefix_len is_name_item items) in
    let y : prefix_len name_byte (b ∷ t) ≡ suc (prefix_len name_byte t) = ap (λ z. cond z (1 + prefix_len name_byte t) 0) f ∙ one-more (prefix_len name_byte t) in
    record {
      same = x ∙ ap suc r.same ∙ sym y;
      bytes = ap (λ n. bytes_of (take n (i ∷ items))) x ∙ ap (λ z. z ++ bytes_of (take (prefix_len is_name_item items) items)) g ∙ ap (λ z. b ∷ z) r.bytes ∙ sym (ap (λ n. take n (b ∷ t)) y);
      rest = subst (λ n. AreItems (drop n (b ∷ t)) (drop (prefix_len is_name_item (i ∷ items)) (i ∷ items))) (sym y)
          (subst (λ n. AreItems (drop (prefix_len name_byte t) t) (drop n (i ∷ items))) (sym x) r.rest);
    }

run : (text : List ℕ) (items : List Item) → AreItems text items → Run text items
run text [] h = run-none text (none-of h refl)
run text (i ∷ items) h =
    let s = first-of h i items refl in
    let k : AreItems (s.byte ∷ s.rest) (i ∷ items) = subst (λ t. AreItems t (i ∷ items)) s.is h in
    subst (λ t. Run t (i ∷ items)) (sym s.is) (elim (cases_Bool (name_byte s.byte)) [
      | inl e ↦ (let a = s.alone name_byte plain-name e in run-more s.byte s.rest i items (s.same name_byte plain-name ∙ e) e a.0 (run s.rest items a.1))
      | inr e ↦ run-stops s.byte s.rest i items (s.same name_byte plain-name ∙ e) e k
    ])

abbrev named : List ℕ → ℕ → Formal
named b n = record { name = b; size = n }

-- a parameter by the run of its items is the one by the bytes
named-by : (items : List Item) (n extra : ℕ) → n ≤ length items → formal (take n items) extra ≡ (if eqb n 0 then None else Some (named (bytes_of (take n items)) (n + extra)))
named-by items zero extra l = refl
named-by [] (suc n) extra l = absurd (omega (arith, l))
named-by (i ∷ items) (suc n) extra l =
    let e : length (i ∷ take n items) ≡ suc n = omega (arith, l, length-take n items) in
    ap (λ m. Some (named (bytes_of (i ∷ take n items)) (m + extra))) e
    ∙ sym (ap (λ z. if z then None else Some (named (bytes_of (i ∷ take n items)) (suc n + extra))) (suc-eqb n))

-- The parameter at the beginning of a text, by its items and by its bytes.
pub record SameFormal (text : List ℕ) (items : List Item) (f g : Option Formal) : Type 0 where
  pub same : f ≡ g
  pub skips : (x : Formal) → g ≡ Some x → (0 < x.size) × AreItems (drop x.size text) (drop x.size items)

-- the run of a name, and `extra` more bytes that are items
run-formal : (text : List ℕ) (items : List Item) (extra : ℕ) → Run text items → formal (name_run items) extra ≡ formal_run text extra
run-formal text items extra r =
    named-by items (prefix_len is_name_item items) extra (prefix_len-le-length is_name_item items)
    ∙ ap (λ b. if eqb (prefix_len is_name_item items) 0 then None else Some (named b (prefix_len is_name_item items + extra))) r.bytes
    ∙ ap (λ n. if eqb n 0 then None else Some (named (take (prefix_len name_byte text) text) (n + extra))) r.same

sized-case : (t : Bool) (b : List ℕ) (n : ℕ) (x : Formal) → (if t then None else Some (named b n)) ≡ Some x → n ≡ x.size
sized-case true b n x e = absurd (cc e)
sized-case false b n x e = let f : named b n ≡ x = cc in ap (λ (y : Formal). y.size) f

sized-by : (n extra : ℕ) (b : List ℕ) (x : Formal) → (if eqb n 0 then None else Some (named b (n + extra))) ≡ Some x → n + extra ≡ x.size
sized-by n extra b x e = sized-case (eqb n 0) b (n + extra) x e

no-formal : (text : List ℕ) (items : List Item) → SameFormal text items None None
no-formal text items = record { same = refl; skips = λ x e. absurd (cc e) }

-- `$x`
bare : (a : ℕ) (text : List ℕ) (j : Item) (items : List Item) → AreItems text items → SameFormal (a ∷ text) (j ∷ items) (formal (name_run items) 1) (formal_run text 1)
bare a text j items h =
    let r = run text items h in
    record {
      same = run-formal text items 1 r;
      skips = λ x e.
          let s = sized-by (prefix_len name_byte text) 1 (take (prefix_len name_byte text) text) x e in
          let n : x.size ≡ suc (prefix_len name_byte text) = omega (arith, s) in (
            omega (arith, n),
            subst (λ m. AreItems (drop m (a ∷ text)) (drop m (j ∷ items))) (sym n)
                (subst (λ m. AreItems (drop (prefix_len name_byte text) text) (drop m items)) r.same r.rest),
          );
    }

-- a `}` follows the run of a name
closed-same : (text : List ℕ) (items : List Item) → AreItems text items → is_closed items ≡ begins_with 125 text
closed-same text [] h = sym (ap (begins_with 125) (none-of h refl))
closed-same text (i ∷ items) h = let s = first-of h i items refl in s.same (eqb 125) plain-close ∙ sym (ap (begins_with 125) s.is)

closed-rest : (text : List ℕ) (items : List Item) → AreItems text items → begins_with 125 text ≡ true → AreItems (drop 1 text) (drop 1 items)
closed-rest text [] h e = absurd (false≢true (sym (ap (begins_with 125) (none-of h refl)) ∙ e))
closed-rest text (i ∷ items) h e =
    let s = first-of h i items refl in
    subst (λ t. AreItems (drop 1 t) items) (sym s.is) (s.alone (eqb 125) plain-close (sym (ap (begins_with 125) s.is) ∙ e)).1

-- `${x}`
braced-by : (a b : ℕ) (text : List ℕ) (j k : Item) (items : List Item) (closed : Bool) → Run text items → (closed ≡ true → AreItems (drop (suc (prefix_len name_byte text)) text) (drop (suc (prefix_len name_byte text)) items)) →
    SameFormal (a ∷ b ∷ text) (j ∷ k ∷ items) (if closed then formal (name_run items) 3 else None) (if closed then formal_run text 3 else None)
braced-by a b text j k items false r h = no-formal (a ∷ b ∷ text) (j ∷ k ∷ items)
braced-by a b text j k items true r h = record {
  same = run-formal text items 3 r;
  skips = λ x e.
      let s = sized-by (prefix_len name_byte text) 3 (take (prefix_len name_byte text) text) x e in
      let n : x.size ≡ suc (suc (suc (prefix_len name_byte text))) = omega (arith, s) in (
        omega (arith, n),
        subst (λ m. AreItems (drop m (a ∷ b ∷ text)) (drop m (j ∷ k ∷ items))) (sym n) (h refl),
      );
}

one-further : {X : Type 0} (n : ℕ) (xs : List X) → drop 1 (drop n xs) ≡ drop (suc n) xs
one-further zero xs = refl
one-further (suc n) [] = refl
one-further (suc n) (x ∷ xs) = one-further n xs

braced : (a b : ℕ) (text : List ℕ) (j k : Item) (items : List Item) → AreItems text items →
    SameFormal (a ∷ b ∷ text) (j ∷ k ∷ items) (if is_closed (drop (length (name_run items)) items) then formal (name_run items) 3 else None)
    (if begins_with 125 (drop (prefix_len name_byte text) text) then formal_run text 3 else None)
braced a b text j k items h =
    let r = run text items h in
    let m = prefix_len name_byte text in
    let rest : AreItems (drop m text) (drop m items) = subst (λ n. AreItems (drop m text) (drop n items)) r.same r.rest in
    let l : length (name_run items) ≡ m = length-prefix_len is_name_item items ∙ r.same in
    let e : is_closed (drop (length (name_run items)) items) ≡ begins_with 125 (drop m text) = ap (λ n. is_closed (drop n items)) l ∙ closed-same (drop m text) (drop m items) rest in
    subst (λ z. SameFormal (a ∷ b ∷ text) (j ∷ k ∷ items) (if z then formal (name_run items) 3 else None) (if begins_with 125 (drop m text) then formal_run text 3 else None)) (sym e)
    (braced-by a b text j k items (begins_with 125 (drop m text)) r
    (λ c. subst (λ x. AreItems x (drop (suc m) items)) (one-further m text) (subst (λ x. AreItems (drop 1 (drop m text)) x) (one-further m items) (closed-rest (drop m text) (drop m items) rest c))))

behind-by : (a b : ℕ) (text : List ℕ) (j i : Item) (items : List Item) (test : Bool) → AreItems (b ∷ text) (i ∷ items) → (test ≡ true → AreItems text items) →
    SameFormal (a ∷ b ∷ text) (j ∷ i ∷ items)
    (if test then (if is_closed (drop (length (name_run items)) items) then formal (name_run items) 3 else None) else formal (name_run (i ∷ items)) 1)
    (if test then (if begins_with 125 (drop (prefix_len name_byte text) text) then formal_run text 3 else None) else formal_run (b ∷ text) 1)
behind-by a b text j i items true h k = braced a b text j i items (k refl)
behind-by a b text j i items false h k = bare a (b ∷ text) j (i ∷ items) h

behind : (a : ℕ) (text : List ℕ) (j : Item) (items : List Item) → AreItems text items → SameFormal (a ∷ text) (j ∷ items) (formal_behind items) (formal_after text)
behind a text j [] h = subst (λ t. SameFormal (a ∷ t) (j ∷ []) None (formal_after t)) (sym (none-of h refl)) (no-formal (a ∷ []) (j ∷ []))
behind a text j (i ∷ items) h =
    let s = first-of h i items refl in
    let k : AreItems (s.byte ∷ s.rest) (i ∷ items) = subst (λ t. AreItems t (i ∷ items)) s.is h in
    let e : is_byte 123 i ≡ eqb 123 s.byte = s.same (eqb 123) plain-open in
    subst (λ t. SameFormal (a ∷ t) (j ∷ i ∷ items) (formal_behind (i ∷ items)) (formal_after t)) (sym s.is)
    (subst (λ z. SameFormal (a ∷ s.byte ∷ s.rest) (j ∷ i ∷ items) (if z then (if is_closed (drop (length (name_run items)) items) then formal (name_run items) 3 else None) else formal (name_run (i ∷ items)) 1) (formal_after (s.byte ∷ s.rest))) (sym e)
    (behind-by a s.byte s.rest j i items (eqb 123 s.byte) k (λ c. (s.alone (eqb 123) plain-open c).1)))

here-by : (b : ℕ) (text : List ℕ) (i : Item) (items : List Item) (test : Bool) → (test ≡ true → AreItems text items) →
    SameFormal (b ∷ text) (i ∷ items) (if test then formal_behind items else None) (if test then formal_after text else None)
here-by b text i items true h = behind b text i items (h refl)
here-by b text i items false h = no-formal (b ∷ text) (i ∷ items)

pub formal-here : (text : List ℕ) (items : List Item) → AreItems text items → SameFormal text items (formal_at items) (formal_in text)
formal-here text [] h = subst (λ t. SameFormal t [] None (formal_in t)) (sym (none-of h refl)) (no-formal [] [])
formal-here text (i ∷ items) h =
    let s = first-of h i items refl in
    let e : is_byte 36 i ≡ eqb 36 s.byte = s.same (eqb 36) plain-dollar in
    subst (λ t. SameFormal t (i ∷ items) (formal_at (i ∷ items)) (formal_in t)) (sym s.is)
    (subst (λ z. SameFormal (s.byte ∷ s.rest) (i ∷ items) (if z then formal_behind items else None) (formal_in (s.byte ∷ s.rest))) (sym e)
    (here-by s.byte s.rest i items (eqb 36 s.byte) (λ c. (s.alone (eqb 36) plain-dollar c).1)))

one-less : (n : ℕ) → suc n - 1 ≡ n
one-less n = omega arith

-- what follows the items of a value
pub replaced-skips : (value : List ℕ → Option (List ℕ)) (n : ℕ) (items : List Item) → replaced value n items ≡ replaced value 0 (drop n items)
unfolding replaced
replaced-skips value zero items = refl
replaced-skips value (suc n) [] = refl
replaced-skips value (suc n) (i ∷ items) =
    ap (λ z. if z then found_bytes (value_by value (formal_at (i ∷ items))) i ++ replaced value (found_size (value_by value (formal_at (i ∷ items))) - 1) items else replaced value (suc n - 1) items) (suc-eqb n)
    ∙ ap (λ m. replaced value m items) (one-less n) ∙ replaced-skips value n items
