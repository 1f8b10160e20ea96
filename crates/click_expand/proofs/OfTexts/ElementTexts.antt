-- A flat element, from what was found of it.
use Rattle.std.proofs.Common.{◌≡◌, ℕ, zero, suc, ◌+◌, ◌<◌, ◌≤◌, List, [], ◌∷◌, ◌++◌, map, take, drop, get_or, length, Option, Some, None, refl, sym, ap, ◌∙◌, subst, arith, length-append}
use Rattle.std.specs.List.{slice_get}
use Rattle.std.proofs.lemmas.List.{map-append, take_all}
use Rattle.std.proofs.lemmas.List.Prefix.{front_rest}
use Rattle.std.proofs.lemmas.List.Sums.{sum_by-cons}
use Rattle.click_expand.specs.Flat.{flat_name, flat_element, text_size, most_text}
use Rattle.click_expand.specs.declared.flat.FlatElement.{FlatElement}
use Rattle.std.proofs.lemmas.Option.{slice_get_within}
use Rattle.click_base.specs.declared.class.Class.{Class}
use Rattle.click_text.specs.declared.syntax.Statement.{Statement}
use Rattle.click_text.specs.declared.syntax.Config.{Config}
use Rattle.click_scopes.specs.Scopes.{Scope, Stands}
use Rattle.click_scopes.specs.Classes.{primitive}
use Rattle.click_scopes.specs.Elements.{ScopeElement}
use Rattle.click_scopes.specs.kept.Tables.{meaning_by, scope_element_of}
use Rattle.click_scopes.specs.Faults.{elements_of_scope}
use Rattle.click_expand.specs.Parameters.{IsReplaced}
use Rattle.click_expand.specs.Instances.{PrimitiveElement}
use Rattle.click_scopes.specs.kept.Scoped.{table_place}
use Rattle.click_scopes.specs.kept.AllScopes.{AreAllScopes}
use Rattle.click_expand.specs.kept.KnownInstances.{KnownInstance, AreInstances, IsPrimitiveElement}
use Rattle.click_expand.specs.kept.ParameterValues.{IsRead}
use Rattle.click_scopes.specs.declared.classes.ResolvedClass.{ResolvedClass}
use Rattle.click_scopes.specs.declared.classes.ResolvedClass.TheVariants as class
use Rattle.click_scopes.specs.kept.Lookups.{string_found, class_kept, class_by, class_found}
use Rattle.click_scopes.specs.declared.scopes.Scope.{Scope as ScopeKept}
use Rattle.click_expand.specs.declared.instances.tree.Place.{Place}
use Rattle.click_expand.specs.declared.instances.tree.Instance.{Instance as InstanceKept}
use Rattle.click_expand.specs.declared.texts.parameter_values.UnreadText.{UnreadText}
use Rattle.std.specs.Prelude.{MatchOption}
use Rattle.click_expand.proofs.OfAnswers.FormOrFault.{match-none, match-some}
use Rattle.click_scopes.proofs.OfLists.ListParts.{map-there}
use Rattle.click_expand.proofs.OfTexts.ParameterMeanings.{some-same, use-at, string-is}

primitive-kept : (o : Option ResolvedClass) (k : Class) → meaning_by o ≡ Some (primitive k) → class_kept o ≡ Some k
primitive-kept None k e = absurd (cc e)
primitive-kept (Some (class.Primitive d)) k e = cc
primitive-kept (Some (class.Compound b)) k e = absurd (cc e)

class-is : (c : Config) (scopes : List ScopeKept) → AreAllScopes c scopes → (s : Scope) (visible : List Statement) (enclosing : List Scope) → Stands c s visible enclosing →
    (i : ℕ) (l : ScopeElement) (w : Class) → slice_get (elements_of_scope c s visible) i ≡ Some l → l.meaning ≡ Some (primitive w) → class_found (slice_get scopes (table_place c s)) i ≡ Some w
class-is c scopes known s visible enclosing st i l w there m =
    let r = known s visible enclosing st in
    let k = map-there (scope_element_of c.text) r.0.elements.items i l (ap (λ z. slice_get z i) r.2.elements ∙ there) in
    ap (λ o. class_found o i) r.1 ∙ ap class_by k.1 ∙ primitive-kept k.0.class w (ap (λ (x : ScopeElement). x.meaning) k.2 ∙ m)

module _ (c : Config) (instances : List InstanceKept) (places : List Place) (known : List KnownInstance) (primitive_elements : List PrimitiveElement) (are : AreInstances c instances places known primitive_elements)
    (scopes : List ScopeKept) (all : AreAllScopes c scopes) (n : ℕ) (p : Place) (f : PrimitiveElement) (k : InstanceKept)
    (there : slice_get places n ≡ Some p) (primitive_element-there : slice_get primitive_elements n ≡ Some f) (kept : slice_get instances p.within ≡ Some k) where
  primitive_element-is : IsPrimitiveElement c instances known n p f
  primitive_element-is = let r = are.primitive_element n p there in subst (λ z. IsPrimitiveElement c instances known n p z) (some-same (sym r.1 ∙ primitive_element-there)) r.2

  pub primitive_element-class : class_found (slice_get scopes k.scope) p.element ≡ Some f.class
  primitive_element-class =
      let i = primitive_element-is in
      let u = use-at c instances places known primitive_elements are p.within k i.used kept i.instance_is_there in
      ap (λ z. class_found (slice_get scopes z) p.element) u.scope ∙ class-is c scopes all i.used.scope i.used.visible i.used.enclosing u.stands p.element i.scope_element f.class i.scope_element_there i.meaning

  pub primitive_element-read : (r : UnreadText) → r.within ≡ p.within → r.rest.now ≡ string_found c.text (slice_get scopes k.scope) p.element → IsRead c known r f.text
  primitive_element-read r e g =
      let i = primitive_element-is in
      let u = use-at c instances places known primitive_elements are p.within k i.used kept i.instance_is_there in
      let s = g ∙ ap (λ z. string_found c.text (slice_get scopes z) p.element) u.scope ∙ string-is c scopes all i.used.scope i.used.visible i.used.enclosing u.stands p.element i.scope_element i.scope_element_there in
      (i.used, ap (slice_get known) e ∙ i.instance_is_there, subst (λ z. IsReplaced c i.used.bindings (i.used.scope ∷ i.used.enclosing) z f.text) (sym s) i.text)

abbrev the-element : List ℕ → Class → List ℕ → FlatElement
the-element n d t = record { name = n; class = d; text = t }

pub element-same : (f : PrimitiveElement) (name : List ℕ) (kind : Class) (text : List ℕ) → name ≡ flat_name f.path → kind ≡ f.class → text ≡ f.text → the-element name kind text ≡ flat_element f
element-same f name kind text e g h =
    ap (λ (z : List ℕ). the-element z kind text) e ∙ ap (λ (z : Class). the-element (flat_name f.path) z text) g ∙ ap (λ (z : List ℕ). the-element (flat_name f.path) f.class z) h

-- What was written after the old text.
module _ (old text new : List ℕ) where
  pub text-behind : (n : ℕ) → n ≡ length old → new ≡ old ++ text → drop n new ≡ text
  text-behind n e h = ap (λ m. drop m new) e ∙ front_rest new old text h

  pub room-behind : (left room : ℕ) → new ≡ old ++ text → left + length new ≡ room + length old → left + length text ≡ room
  room-behind left room h r = let l = ap length h in omega (arith, l, r, length-append old text)

-- The first i of the flat elements are made, and `room` bytes are left.
pub record AreMade (primitive_elements : List PrimitiveElement) (i : ℕ) (made : List FlatElement) (room : ℕ) : Type 0 where
  pub is : made ≡ map flat_element (take i primitive_elements)
  pub left : room + text_size (take i primitive_elements) ≡ most_text

pub made-none : (primitive_elements : List PrimitiveElement) (made : List FlatElement) (room : ℕ) → made ≡ [] → room ≡ most_text → AreMade primitive_elements 0 made room
made-none primitive_elements made room e f = record { is = e; left = let n : text_size [] ≡ 0 = refl in omega (arith, f, n) }

take-further : {X : Type 0} (xs : List X) (i : ℕ) (x : X) → slice_get xs i ≡ Some x → take (i + 1) xs ≡ take i xs ++ x ∷ []
take-further [] i x h = absurd (cc h)
take-further (y ∷ xs) zero x h = let e : y ≡ x = cc in ap (λ z. z ∷ []) e
take-further (y ∷ xs) (suc i) x h = let e : suc i + 1 ≡ suc (i + 1) = omega arith in ap (λ n. take n (y ∷ xs)) e ∙ ap (λ z. y ∷ z) (take-further xs i x h)

text-cons : (x : PrimitiveElement) (xs : List PrimitiveElement) → text_size (x ∷ xs) ≡ length x.text + text_size xs
text-cons x xs = sum_by-cons (λ (l : PrimitiveElement). length l.text) x xs

text-more : (xs : List PrimitiveElement) (x : PrimitiveElement) → text_size (xs ++ x ∷ []) ≡ text_size xs + length x.text
text-more [] x = omega arith
text-more (y ∷ xs) x = let h = text-more xs x in omega (arith, h, text-cons y (xs ++ x ∷ []), text-cons y xs)

text-front : (i : ℕ) (xs : List PrimitiveElement) → text_size (take i xs) ≤ text_size xs
text-front zero xs = let n : text_size [] ≡ 0 = refl in omega (arith, n)
text-front (suc i) [] = omega arith
text-front (suc i) (x ∷ xs) = let h = text-front i xs in omega (arith, h, text-cons x (take i xs), text-cons x xs)

module _ (primitive_elements : List PrimitiveElement) (i : ℕ) (made : List FlatElement) (room : ℕ) (f : PrimitiveElement) (there : slice_get primitive_elements i ≡ Some f) (h : AreMade primitive_elements i made room) where
  pub made-more : (more : List FlatElement) (e : FlatElement) (left : ℕ) → more ≡ made ++ e ∷ [] → e ≡ flat_element f → left + length f.text ≡ room → AreMade primitive_elements (i + 1) more left
  made-more more e left a b d = record {
    is = a ∙ ap (λ z. z ++ e ∷ []) h.is ∙ ap (λ z. map flat_element (take i primitive_elements) ++ z ∷ []) b ∙ sym (map-append flat_element (take i primitive_elements) (f ∷ [])) ∙ ap (map flat_element) (sym (take-further primitive_elements i f there));
    left = let t = ap text_size (take-further primitive_elements i f there) in let l = h.left in omega (arith, t, l, d, text-more (take i primitive_elements) f);
  }

  pub made-long : room < length f.text → most_text < text_size primitive_elements
  made-long l = let t = ap text_size (take-further primitive_elements i f there) in let k = h.left in omega (arith, t, k, l, text-more (take i primitive_elements) f, text-front (i + 1) primitive_elements)

pub made-all : (primitive_elements : List PrimitiveElement) (i : ℕ) (made : List FlatElement) (room : ℕ) → length primitive_elements ≤ i → AreMade primitive_elements i made room → (made ≡ map flat_element primitive_elements) × (text_size primitive_elements ≤ most_text)
made-all primitive_elements i made room l h =
    let e = take_all i primitive_elements l in let t = ap text_size e in let k = h.left in
    (h.is ∙ ap (map flat_element) e, omega (arith, t, k))

pub place-within : (c : Config) (instances : List InstanceKept) (places : List Place) (known : List KnownInstance) (primitive_elements : List PrimitiveElement) → AreInstances c instances places known primitive_elements → (n : ℕ) (p : Place) → slice_get places n ≡ Some p → p.within < length instances
place-within c instances places known primitive_elements are n p there = let r = are.primitive_element n p there in slice_get_within instances p.within r.2.instance_kept r.2.instance_there

pub primitive_element-at : (c : Config) (instances : List InstanceKept) (places : List Place) (known : List KnownInstance) (primitive_elements : List PrimitiveElement) → AreInstances c instances places known primitive_elements → (n : ℕ) (p : Place) → slice_get places n ≡ Some p → (f : PrimitiveElement) × (slice_get primitive_elements n ≡ Some f)
primitive_element-at c instances places known primitive_elements are n p there = let r = are.primitive_element n p there in (r.0, r.1)

pub some-at : {X : Type 0} (xs : List X) (i : ℕ) (d : X) → i < length xs → slice_get xs i ≡ Some (get_or xs i d)
some-at [] i d l = absurd (omega (arith, l))
some-at (x ∷ xs) zero d l = refl
some-at (x ∷ xs) (suc i) d l = some-at xs i d (omega (arith, l))

-- The element at a place is made, and `left` bytes are left; or there is no room for it.
abbrev pub IsElement : Config → List InstanceKept → Place → ℕ → ℕ → Option FlatElement → Type 0
IsElement c instances p room left o =
    (places : List Place) (known : List KnownInstance) (primitive_elements : List PrimitiveElement) (n : ℕ) (f : PrimitiveElement) → AreInstances c instances places known primitive_elements → slice_get places n ≡ Some p → slice_get primitive_elements n ≡ Some f →
    MatchOption o (room < length f.text) (λ e. (e ≡ flat_element f) × (left + length f.text ≡ room))

module _ (c : Config) (instances us : List InstanceKept) (places ps : List Place) (i : ℕ) (d : Place) (same-instances : us ≡ instances) (same : ps ≡ places) (l : i < length ps)
    (known : List KnownInstance) (primitive_elements : List PrimitiveElement) (are : AreInstances c instances places known primitive_elements) where
  pub here : slice_get places i ≡ Some (get_or ps i d)
  here = ap (λ z. slice_get z i) (sym same) ∙ some-at ps i d l

  pub step-within : (get_or ps i d).within < length us
  step-within = let w = place-within c instances places known primitive_elements are i (get_or ps i d) here in let e = ap length same-instances in omega (arith, w, e)

  its-primitive_element : (f : PrimitiveElement) × (slice_get primitive_elements i ≡ Some f)
  its-primitive_element = primitive_element-at c instances places known primitive_elements are i (get_or ps i d) here

  module _ (room left : ℕ) (made : List FlatElement) (o : Option FlatElement) (is : IsElement c us (get_or ps i d) room left o) (h : AreMade primitive_elements i made room) where
    found : MatchOption o (room < length its-primitive_element.0.text) (λ e. (e ≡ flat_element its-primitive_element.0) × (left + length its-primitive_element.0.text ≡ room))
    found = is places known primitive_elements i its-primitive_element.0 (subst (λ z. AreInstances c z places known primitive_elements) (sym same-instances) are) here its-primitive_element.1

    pub step-none : o ≡ None → most_text < text_size primitive_elements
    step-none e = made-long primitive_elements i made room its-primitive_element.0 its-primitive_element.1 h (match-none o _ _ e found)

    pub step-made : (e : FlatElement) (more : List FlatElement) → o ≡ Some e → more ≡ made ++ e ∷ [] → AreMade primitive_elements (i + 1) more left
    step-made e more q a = let r = match-some o e _ _ q found in made-more primitive_elements i made room its-primitive_element.0 its-primitive_element.1 h more e left a r.0 r.1
