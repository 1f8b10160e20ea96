-- The names, the order and the ends of a flat form, and its elements if there are no compounds.
use Rattle.std.proofs.Common.{◌≡◌, ℕ, zero, suc, ◌<◌, List, [], ◌∷◌, length, map, Contains, Option, Some, refl, sym, ap, ◌∙◌, subst, arith}
use Rattle.std.specs.List.{slice_get}
use Rattle.std.proofs.lemmas.Option.{slice_get_within}
use Rattle.std.proofs.lemmas.List.Elements.{All-contains}
use Rattle.click_base.specs.declared.class.Class.{Class}
use Rattle.click_text.specs.declared.syntax.Config.{Config}
use Rattle.click_expand.specs.declared.flat.Connection.{Connection}
use Rattle.click_expand.specs.declared.flat.Flat.{Flat}
use Rattle.click_expand.specs.declared.flat.FlatElement.{FlatElement}
use Rattle.click_scopes.specs.Scopes.{whole}
use Rattle.click_scopes.specs.Classes.{Meaning, primitive, compound}
use Rattle.click_scopes.specs.Elements.{ScopeElement}
use Rattle.click_scopes.specs.Faults.{elements_of_scope}
use Rattle.click_expand.specs.Parameters.{IsReplaced, value_in}
use Rattle.click_expand.specs.Instances.{PrimitiveElement, ArePrimitiveElements, no_elements, primitive_element, branch}
use Rattle.click_expand.specs.Flat.{flat_element, flat_names, AreDistinct, StandsBefore, AreOrdered, IsFlat}
use Rattle.click_expand.specs.OneScope.{HasNoCompounds, as_written, as_flat}
use Rattle.click_scopes.proofs.OfLists.ListParts.{contains-here, contains-behind}
use Rattle.click_expand.proofs.OfConnections.PortSearch.{at-contains}
use Rattle.click_expand.proofs.OfFlatText.TextItems.{items_bytes, replaced_none}
use Rattle.click_expand.proofs.OfFlatText.LineFlatForm.{lengths_are}

-- no two names are equal
distinct-at : (ns : List (List ℕ)) → AreDistinct ns → (i j : ℕ) (n m : List ℕ) → slice_get ns i ≡ Some n → slice_get ns j ≡ Some m → n ≡ m → i ≡ j
distinct-at [] d i j n m h k e = absurd (cc h)
distinct-at (x ∷ ns) d zero zero n m h k e = refl
distinct-at (x ∷ ns) d zero (suc j) n m h k e = let s : x ≡ n = cc in absurd (d.0 (subst (Contains ns) (sym (s ∙ e)) (at-contains ns j m k)))
distinct-at (x ∷ ns) d (suc i) zero n m h k e = let s : x ≡ m = cc in absurd (d.0 (subst (Contains ns) (e ∙ sym s) (at-contains ns i n h)))
distinct-at (x ∷ ns) d (suc i) (suc j) n m h k e = ap suc (distinct-at ns d.1 i j n m h k e)

name-at : (primitive_elements : List PrimitiveElement) (i : ℕ) (e : FlatElement) → slice_get (map flat_element primitive_elements) i ≡ Some e → slice_get (flat_names primitive_elements) i ≡ Some e.name
name-at [] i e h = absurd (cc h)
name-at (l ∷ primitive_elements) zero e h = let s : flat_element l ≡ e = cc in ap (λ (x : FlatElement). Some x.name) s
name-at (l ∷ primitive_elements) (suc i) e h = name-at primitive_elements i e h

pub distinct-names : (c : Config) (f : Flat) (i j : ℕ) (d e : FlatElement) → IsFlat c f → slice_get f.elements i ≡ Some d → slice_get f.elements j ≡ Some e → d.name ≡ e.name → i ≡ j
distinct-names c f i j d e h a b same =
    distinct-at (flat_names h.primitive_elements) h.distinct i j d.name e.name (name-at h.primitive_elements i d (ap (λ es. slice_get es i) (sym h.elements) ∙ a))
    (name-at h.primitive_elements j e (ap (λ es. slice_get es j) (sym h.elements) ∙ b)) same

-- in an ordered list each connection comes before those after it
pub ordered-at : (ks : List Connection) → AreOrdered ks → (i j : ℕ) (k l : Connection) → slice_get ks i ≡ Some k → slice_get ks j ≡ Some l → i < j → StandsBefore k l
ordered-at [] o i j k l h g m = absurd (cc h)
ordered-at (x ∷ ks) o zero zero k l h g m = absurd (omega (arith, m))
ordered-at (x ∷ ks) o zero (suc j) k l h g m = let s : x ≡ k = cc in subst (λ y. StandsBefore y l) s (All-contains (StandsBefore x) ks l o.0 (at-contains ks j l g))
ordered-at (x ∷ ks) o (suc i) zero k l h g m = absurd (omega (arith, m))
ordered-at (x ∷ ks) o (suc i) (suc j) k l h g m = ordered-at ks o.1 i j k l h g (omega (arith, m))

pub ends-within : (c : Config) (f : Flat) (k : Connection) → IsFlat c f → Contains f.connections k → (k.from < length f.elements) × (k.to < length f.elements)
ends-within c f k h m =
    let j = h.meant.connections.sound k m in
    let n : length h.primitive_elements ≡ length f.elements = lengths_are h.primitive_elements ∙ ap length (sym h.elements) in
    let a = slice_get_within h.primitive_elements k.from j.from j.from_there in
    let b = slice_get_within h.primitive_elements k.to j.to j.to_there in
    (omega (arith, n, a), omega (arith, n, b))

-- without parameters a text is unchanged
same-text : (c : Config) (text result : List ℕ) → IsReplaced c [] (whole ∷ []) text result → result ≡ text
same-text c text result h = h.replaces ∙ replaced_none (value_in c [] (whole ∷ [])) (λ name. refl) h.items ∙ items_bytes h.read

abbrev NoCompounds : List ScopeElement → Type 0
NoCompounds ls = (l : ScopeElement) (b : ℕ) → Contains ls l → l.meaning ≡ Some (compound b) → ⊥

same-parts : (l : ScopeElement) (class : Class) (text : List ℕ) → l.meaning ≡ Some (primitive class) → text ≡ l.text → (l.name, Some (primitive class), text) ≡ as_written l
same-parts l class text m t = ap (λ (z : List ℕ). (l.name, Some (primitive class), z)) t ∙ ap (λ (z : Option Meaning). (l.name, z, l.text)) (sym m)

own-primitive_elements : (c : Config) (ls : List ScopeElement) (primitive_elements : List PrimitiveElement) (paths : ℕ) → NoCompounds ls → ArePrimitiveElements c whole [] [] [] ls primitive_elements paths → map as_flat (map flat_element primitive_elements) ≡ map as_written ls
own-primitive_elements c [] primitive_elements paths n (no_elements s enclosing path bindings) = refl
own-primitive_elements c (l ∷ ls) primitive_elements paths n (primitive_element s enclosing path bindings l' ls' class text more m meaning replaced rest) =
    let e = same-parts l class text meaning (same-text c l.text text replaced) in
    let r = own-primitive_elements c ls more m (λ k b h. n k b (contains-behind l ls k h)) rest in
    ap (λ (x : List ℕ × Option Meaning × List ℕ). x ∷ map as_flat (map flat_element more)) e ∙ ap (λ (xs : List (List ℕ × Option Meaning × List ℕ)). as_written l ∷ xs) r
own-primitive_elements c (l ∷ ls) primitive_elements paths n (branch s enclosing path bindings l' ls' b visible outer spans values inner more m k meaning arguments are st within rest) = absurd (n l b (contains-here l ls) meaning)

pub own-elements : (c : Config) (f : Flat) → HasNoCompounds c → IsFlat c f → map as_flat f.elements ≡ map as_written (elements_of_scope c whole [])
own-elements c f n h = ap (λ (es : List FlatElement). map as_flat es) h.elements ∙ own-primitive_elements c (elements_of_scope c whole []) h.primitive_elements h.paths n h.meant.elements
