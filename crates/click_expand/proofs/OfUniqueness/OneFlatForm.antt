-- A configuration has at most one flat form, or one fault.
use Rattle.std.proofs.Common.{◌≡◌, ◌⊎◌, inl, inr, ℕ, List, [], ◌∷◌, ◌++◌, map, true, false, Some, None, refl, sym, ap, ◌∙◌, subst, arith, Contains}
use Rattle.std.specs.List.{All}
use Rattle.std.proofs.lemmas.Bool.{false≢true}
use Rattle.std.proofs.lemmas.List.{map-append}
use Rattle.std.proofs.lemmas.List.Elements.{All-contains, Contains-append_right}
use Rattle.click_text.specs.declared.syntax.Span.{Span}
use Rattle.click_text.specs.declared.syntax.Config.{Config}
use Rattle.click_scopes.specs.Faults.{IsWrong}
use Rattle.click_expand.specs.Instances.{PrimitiveElement, PrimitiveElementsOf}
use Rattle.click_scopes.specs.kept.Nesting.{IsNested}
use Rattle.click_expand.specs.Flat.{AreConnections, WithinLimits, Meant, IsFlat, IsFlatFault, wrong, too_many, repeated, broken, Exceeds, many_elements, many_paths, much_text, many_connections, flat_name, flat_names, flat_element, is_whole, AreDistinct, expand_fault}
use Rattle.click_expand.specs.declared.flat.FlatElement.{FlatElement}
use Rattle.click_expand.specs.declared.flat.Connection.{Connection}
use Rattle.click_expand.specs.declared.flat.Flat.{Flat}
use Rattle.click_scopes.specs.declared.fault.WrongUse.{WrongUse}
use Rattle.click_expand.specs.declared.fault.FaultKind.TheVariants as kind
use Rattle.click_scopes.specs.declared.fault.WrongUse.TheVariants as wrong_use
use Rattle.click_expand.specs.declared.fault.ExpandFault.{ExpandFault}
use Rattle.click_scopes.proofs.OfFaults.FirstWrongUse.{first-wrong-once}
use Rattle.click_scopes.proofs.OfBodies.OneBodyPlace.{contains-nil, contains-cons}
use Rattle.click_scopes.proofs.OfLists.ListParts.{contains-here}
use Rattle.click_expand.proofs.OfUniqueness.OneElementList.{primitive_elements-once}
use Rattle.click_expand.proofs.OfUniqueness.OneOrder.{ordered-once, ordered-within}

-- flat elements have at most one list of connections
pub connections-once : (c : Config) (primitive_elements : List PrimitiveElement) (ks js : List Connection) → AreConnections c primitive_elements ks → AreConnections c primitive_elements js → ks ≡ js
connections-once c primitive_elements ks js h k = ordered-once ks js h.in_order k.in_order (λ x i. k.complete x (h.sound x i)) (λ x i. h.complete x (k.sound x i))

abbrev flat : List FlatElement → List Connection → Flat
flat es ks = record { elements = es; connections = ks }

same-flat : (f g : Flat) → f.elements ≡ g.elements → f.connections ≡ g.connections → f ≡ g
same-flat f g e k = ap (λ x. flat x f.connections) e ∙ ap (flat g.elements) k

-- a configuration has at most one flat form
pub flat-once : (c : Config) → IsNested c → (f g : Flat) → IsFlat c f → IsFlat c g → f ≡ g
flat-once c nests f g h k =
    let e = (primitive_elements-once c nests h.primitive_elements k.primitive_elements h.paths k.paths h.meant.elements k.meant.elements).0 in
    same-flat f g (h.elements ∙ ap (map flat_element) e ∙ sym k.elements)
    (connections-once c k.primitive_elements f.connections g.connections (subst (λ x. AreConnections c x f.connections) e h.meant.connections) k.meant.connections)

-- a configuration within the limits passes none
within-all : (c : Config) (primitive_elements : List PrimitiveElement) (paths : ℕ) (ks : List Connection) → AreConnections c primitive_elements ks → WithinLimits primitive_elements paths ks → Exceeds c primitive_elements paths → ⊥
within-all c primitive_elements paths ks a w (many_elements h) = let l = w.elements in omega arith
within-all c primitive_elements paths ks a w (many_paths h) = let l = w.all_paths in omega arith
within-all c primitive_elements paths ks a w (much_text h) = let l = w.text in omega arith
within-all c primitive_elements paths ks a w (many_connections js o f h) =
    let l = w.connections in
    let m = ordered-within js ks o a.in_order (λ k i. a.complete k (f k i)) in
    omega arith

within-same : (c : Config) → IsNested c → (primitive_elements others : List PrimitiveElement) (n m : ℕ) (ks : List Connection) → Meant c primitive_elements n ks → WithinLimits primitive_elements n ks → PrimitiveElementsOf c others m →
    Exceeds c others m → ⊥
within-same c nests primitive_elements others n m ks h w k x =
    let e = primitive_elements-once c nests others primitive_elements m n k h.elements in
    within-all c primitive_elements n ks h.connections w (subst (Exceeds c primitive_elements) e.1 (subst (λ y. Exceeds c y m) e.0 x))

-- a name that occurs earlier
twice-apart : (front back : List (List ℕ)) (n : List ℕ) → AreDistinct (front ++ n ∷ back) → Contains front n → ⊥
twice-apart [] back n d i = contains-nil n i
twice-apart (m ∷ front) back n d i =
    elim (contains-cons m front n i) [
      | inl e ↦ d.0 (subst (Contains (front ++ n ∷ back)) (sym e) (Contains-append_right front (n ∷ back) n (contains-here n back)))
      | inr j ↦ twice-apart front back n d.1 j
    ]

pub primitive_element-twice : (primitive_elements front back : List PrimitiveElement) (l : PrimitiveElement) → primitive_elements ≡ front ++ l ∷ back → AreDistinct (flat_names primitive_elements) → Contains (flat_names front) (flat_name l.path) → ⊥
primitive_element-twice primitive_elements front back l e d i =
    twice-apart (flat_names front) (flat_names back) (flat_name l.path)
    (subst AreDistinct (ap flat_names e ∙ map-append (λ (x : PrimitiveElement). flat_name x.path) front (l ∷ back)) d) i

abbrev AllWhole : List PrimitiveElement → Type 0
AllWhole primitive_elements = All (λ (l : PrimitiveElement). is_whole l.text ≡ true) primitive_elements

pub primitive_element-broken : (primitive_elements front back : List PrimitiveElement) (l : PrimitiveElement) → primitive_elements ≡ front ++ l ∷ back → AllWhole primitive_elements → is_whole l.text ≡ false → ⊥
primitive_element-broken primitive_elements front back l e a h =
    let i : Contains primitive_elements l = subst (λ x. Contains x l) (sym e) (Contains-append_right front (l ∷ back) l (contains-here l back)) in
    false≢true (sym h ∙ All-contains (λ (x : PrimitiveElement). is_whole x.text ≡ true) primitive_elements l a i)

-- a configuration with a flat form has no fault
pub flat-no-fault : (c : Config) → IsNested c → (f : Flat) (e : ExpandFault) → IsFlat c f → IsFlatFault c e → ⊥
flat-no-fault c nests f e h (wrong k s w) = h.meant.sound k s w.wrong
flat-no-fault c nests f e h (too_many primitive_elements paths sound k x) = within-same c nests h.primitive_elements primitive_elements h.paths paths f.connections h.meant h.limits k x
flat-no-fault c nests f e h (repeated primitive_elements front back l paths ks m w s d i) =
    let q = (primitive_elements-once c nests h.primitive_elements primitive_elements h.paths paths h.meant.elements m.elements).0 in
    primitive_element-twice primitive_elements front back l s (subst (λ x. AreDistinct (flat_names x)) q h.distinct) i
flat-no-fault c nests f e h (broken primitive_elements front back l paths ks m w d s a b) =
    let q = (primitive_elements-once c nests h.primitive_elements primitive_elements h.paths paths h.meant.elements m.elements).0 in
    primitive_element-broken primitive_elements front back l s (subst AllWhole q h.texts) b

-- the first flat element for which a property holds is determined
two-splits : (xs ys zs ws : List PrimitiveElement) (x z : PrimitiveElement) → xs ++ x ∷ ys ≡ zs ++ z ∷ ws → (x ≡ z) × (xs ≡ zs) ⊎ (((us : List PrimitiveElement) × (zs ≡ xs ++ x ∷ us)) ⊎ ((us : List PrimitiveElement) × (xs ≡ zs ++ z ∷ us)))
two-splits [] ys [] ws x z e = let f : x ≡ z = cc in inl (f, refl)
two-splits [] ys (c ∷ zs) ws x z e = let f : c ≡ x = cc in inr (inl (zs, ap (λ y. y ∷ zs) f))
two-splits (a ∷ xs) ys [] ws x z e = let f : a ≡ z = cc in inr (inr (xs, ap (λ y. y ∷ xs) f))
two-splits (a ∷ xs) ys (c ∷ zs) ws x z e =
    let f : a ≡ c = cc in
    let g : xs ++ x ∷ ys ≡ zs ++ z ∷ ws = cc in
    elim (two-splits xs ys zs ws x z g) [
      | inl r ↦ inl (r.0, ap (λ y. y ∷ xs) f ∙ ap (λ y. c ∷ y) r.1)
      | inr (inl r) ↦ inr (inl (r.0, ap (λ y. c ∷ y) r.1 ∙ ap (λ y. y ∷ xs ++ x ∷ r.0) (sym f)))
      | inr (inr r) ↦ inr (inr (r.0, ap (λ y. a ∷ y) r.1 ∙ ap (λ y. y ∷ zs ++ z ∷ r.0) f))
    ]

repeated-once : (primitive_elements xs ys zs ws : List PrimitiveElement) (x z : PrimitiveElement) → primitive_elements ≡ xs ++ x ∷ ys → primitive_elements ≡ zs ++ z ∷ ws → AreDistinct (flat_names xs) → Contains (flat_names xs) (flat_name x.path) →
    AreDistinct (flat_names zs) → Contains (flat_names zs) (flat_name z.path) → x ≡ z
repeated-once primitive_elements xs ys zs ws x z e f d i k j =
    elim (two-splits xs ys zs ws x z (sym e ∙ f)) [
      | inl r ↦ r.0
      | inr (inl r) ↦ absurd (primitive_element-twice zs xs r.0 x r.1 k i)
      | inr (inr r) ↦ absurd (primitive_element-twice xs zs r.0 z r.1 d j)
    ]

broken-once : (primitive_elements xs ys zs ws : List PrimitiveElement) (x z : PrimitiveElement) → primitive_elements ≡ xs ++ x ∷ ys → primitive_elements ≡ zs ++ z ∷ ws → AllWhole xs → is_whole x.text ≡ false → AllWhole zs →
    is_whole z.text ≡ false → x ≡ z
broken-once primitive_elements xs ys zs ws x z e f a b k j =
    elim (two-splits xs ys zs ws x z (sym e ∙ f)) [
      | inl r ↦ r.0
      | inr (inl r) ↦ absurd (primitive_element-broken zs xs r.0 x r.1 k b)
      | inr (inr r) ↦ absurd (primitive_element-broken xs zs r.0 z r.1 a j)
    ]

-- misuses that begin at the same offset have the same token
abbrev pub HasTokens : Config → Type 0
HasTokens c = (k j : WrongUse) (s t : Span) → IsWrong c k s → IsWrong c j t → s.start ≡ t.start → s ≡ t

-- a configuration whose misuses are at tokens has at most one fault
pub fault-once : (c : Config) → IsNested c → HasTokens c → (e d : ExpandFault) → IsFlatFault c e → IsFlatFault c d → e ≡ d
fault-once c nests tokens e d (wrong k s w) (wrong j t v) =
    let r = first-wrong-once c k j s t w v in
    ap (λ x. expand_fault (kind.Use x) (Some s) []) r.0 ∙ ap (λ x. expand_fault (kind.Use j) (Some x) []) (tokens k j s t w.wrong v.wrong r.1)
fault-once c nests tokens e d (wrong k s w) (too_many l2 n2 sound2 k2 x2) = absurd (sound2 k s w.wrong)
fault-once c nests tokens e d (wrong k s w) (repeated l2 f2 b2 y2 n2 ks2 m2 w2 s2 d2 i2) = absurd (m2.sound k s w.wrong)
fault-once c nests tokens e d (wrong k s w) (broken l2 f2 b2 y2 n2 ks2 m2 w2 d2 s2 a2 h2) = absurd (m2.sound k s w.wrong)
fault-once c nests tokens e d (too_many l n sound k x) (wrong j t v) = absurd (sound j t v.wrong)
fault-once c nests tokens e d (too_many l n sound k x) (too_many l2 n2 sound2 k2 x2) = refl
fault-once c nests tokens e d (too_many l n sound k x) (repeated l2 f2 b2 y2 n2 ks2 m2 w2 s2 d2 i2) = absurd (within-same c nests l2 l n2 n ks2 m2 w2 k x)
fault-once c nests tokens e d (too_many l n sound k x) (broken l2 f2 b2 y2 n2 ks2 m2 w2 d2 s2 a2 h2) = absurd (within-same c nests l2 l n2 n ks2 m2 w2 k x)
fault-once c nests tokens e d (repeated l f b y n ks m w s g i) (wrong j t v) = absurd (m.sound j t v.wrong)
fault-once c nests tokens e d (repeated l f b y n ks m w s g i) (too_many l2 n2 sound2 k2 x2) = absurd (within-same c nests l l2 n n2 ks m w k2 x2)
fault-once c nests tokens e d (repeated l f b y n ks m w s g i) (repeated l2 f2 b2 y2 n2 ks2 m2 w2 s2 d2 i2) =
    let q = (primitive_elements-once c nests l l2 n n2 m.elements m2.elements).0 in
    ap (λ (x : PrimitiveElement). expand_fault (kind.Use wrong_use.DeclaredTwice) (Some x.first) []) (repeated-once l f b f2 b2 y y2 s (q ∙ s2) g i d2 i2)
fault-once c nests tokens e d (repeated l f b y n ks m w s g i) (broken l2 f2 b2 y2 n2 ks2 m2 w2 d2 s2 a2 h2) =
    let q = (primitive_elements-once c nests l l2 n n2 m.elements m2.elements).0 in absurd (primitive_element-twice l f b y s (subst (λ x. AreDistinct (flat_names x)) (sym q) d2) i)
fault-once c nests tokens e d (broken l f b y n ks m w g s a h) (wrong j t v) = absurd (m.sound j t v.wrong)
fault-once c nests tokens e d (broken l f b y n ks m w g s a h) (too_many l2 n2 sound2 k2 x2) = absurd (within-same c nests l l2 n n2 ks m w k2 x2)
fault-once c nests tokens e d (broken l f b y n ks m w g s a h) (repeated l2 f2 b2 y2 n2 ks2 m2 w2 s2 d2 i2) =
    let q = (primitive_elements-once c nests l l2 n n2 m.elements m2.elements).0 in absurd (primitive_element-twice l2 f2 b2 y2 s2 (subst (λ x. AreDistinct (flat_names x)) q g) i2)
fault-once c nests tokens e d (broken l f b y n ks m w g s a h) (broken l2 f2 b2 y2 n2 ks2 m2 w2 d2 s2 a2 h2) =
    let q = (primitive_elements-once c nests l l2 n n2 m.elements m2.elements).0 in
    ap (λ (x : PrimitiveElement). expand_fault kind.BrokenText None (flat_name x.path)) (broken-once l f b f2 b2 y y2 s (q ∙ s2) a h a2 h2)
