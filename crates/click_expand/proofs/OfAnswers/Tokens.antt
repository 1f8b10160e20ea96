-- The flat elements by the tables: their heads, and which of them are refused.
use Rattle.std.proofs.Common.{◌≡◌, ℕ, suc, zero, ◌<◌, List, [], ◌∷◌, ◌++◌, map, take, length, true, All, Contains, Some, None, refl, sym, ap, ◌∙◌, subst, arith}
use Rattle.std.specs.List.{slice_get, slice_index_or}
use Rattle.std.proofs.lemmas.Option.{same_Some, slice_get_within}
use Rattle.click_text.specs.declared.syntax.Span.{Span}
use Rattle.click_text.specs.declared.syntax.Head.{Head}
use Rattle.click_text.specs.declared.syntax.Head.TheVariants as head
use Rattle.click_text.specs.declared.syntax.Config.{Config}
use Rattle.click_scopes.specs.Elements.{ScopeElement}
use Rattle.click_scopes.specs.Faults.{first_token}
use Rattle.click_expand.specs.Instances.{PrimitiveElement}
use Rattle.click_expand.specs.Flat.{AreDistinct, is_whole, flat_name, flat_names, flat_element}
use Rattle.click_expand.specs.kept.FinalChecks.{flat_names_in, IsRepeated, IsBroken}
use Rattle.click_scopes.specs.kept.Tables.{scope_element_of}
use Rattle.click_scopes.specs.kept.FirstFault.{first_in}
use Rattle.click_scopes.specs.kept.AllScopes.{AreAllScopes}
use Rattle.click_expand.specs.kept.KnownInstances.{KnownInstance, scope_elements_at, AreInstances}
use Rattle.click_expand.specs.kept.Answered.{instance_head, place_head, head_in, IsRefusedOf}
use Rattle.click_expand.specs.declared.fault.FaultKind.TheVariants as kind
use Rattle.click_scopes.specs.declared.fault.WrongUse.TheVariants as wrong_use
use Rattle.click_expand.specs.declared.flat.FlatElement.{FlatElement}
use Rattle.click_expand.specs.declared.flattening.Refusal.TheVariants as refused
use Rattle.click_scopes.specs.declared.scope_elements.ScopeElement.{ScopeElement as ScopeElementKept}
use Rattle.click_scopes.specs.kept.Lookups.{scope_element_head, scope_head}
use Rattle.click_scopes.specs.declared.scopes.Scope.{Scope as ScopeKept}
use Rattle.click_expand.specs.declared.instances.tree.Place.{Place}
use Rattle.click_expand.specs.declared.instances.tree.Instance.{Instance as InstanceKept}
use Rattle.click_scopes.proofs.OfLists.ListParts.{at-place, map-there}

pub some-at : {X : Type 0} (xs : List X) (n : ℕ) → n < length xs → (x : X) × (slice_get xs n ≡ Some x)
some-at [] n l = absurd (omega (arith, l))
some-at (x ∷ xs) zero l = (x, refl)
some-at (x ∷ xs) (suc n) l = some-at xs n (omega (arith, l))

head-found : (scopes : List ScopeKept) (instances : List InstanceKept) (places : List Place) (n : ℕ) (p : Place) (k : InstanceKept) (s : ScopeKept) (l : ScopeElementKept) →
    slice_get places n ≡ Some p → slice_get instances p.within ≡ Some k → slice_get scopes k.scope ≡ Some s → slice_get s.elements.items p.element ≡ Some l →
    head_in scopes instances places n ≡ Some l.head
head-found scopes instances places n p k s l a b d e =
    ap (place_head scopes instances) a ∙ ap (instance_head scopes p.element) b ∙ ap (scope_head p.element) d ∙ ap scope_element_head e

-- the head of a flat element, by the tables
pub record IsHeaded (c : Config) (scopes : List ScopeKept) (instances : List InstanceKept) (places : List Place) (n : ℕ) (f : PrimitiveElement) : Type 0 where
  pub head : Head
  pub there : head_in scopes instances places n ≡ Some head
  pub first : first_token c head ≡ f.first

pub primitive_element-head : (c : Config) (scopes : List ScopeKept) (instances : List InstanceKept) (places : List Place) (known : List KnownInstance) (primitive_elements : List PrimitiveElement) → AreAllScopes c scopes →
    AreInstances c instances places known primitive_elements → (n : ℕ) (f : PrimitiveElement) → slice_get primitive_elements n ≡ Some f → IsHeaded c scopes instances places n f
primitive_element-head c scopes instances places known primitive_elements all used n f e =
    let p = some-at places n (subst (λ k. n < k) (sym used.as_many_primitive_elements) (slice_get_within primitive_elements n f e)) in
    let r = used.primitive_element n p.0 p.1 in
    let same : r.0 ≡ f = same_Some r.0 f (sym r.1 ∙ e) in
    let g = r.2 in
    let u = used.each p.0.within g.instance_kept g.instance_there in
    let here : u.0 ≡ g.used = same_Some u.0 g.used (sym u.1 ∙ g.instance_is_there) in
    let ls = all u.0.scope u.0.visible u.0.enclosing u.2.stands in
    let m = map-there (scope_element_of c.text) ls.0.elements.items p.0.element g.scope_element (ap (λ zs. slice_get zs p.0.element) (ls.2.elements ∙ ap (scope_elements_at c) here) ∙ g.scope_element_there) in
    record {
      head = m.0.head;
      there = head-found scopes instances places n p.0 g.instance_kept ls.0 m.0 p.1 g.instance_there (ap (slice_get scopes) u.2.scope ∙ ls.1) m.1;
      first = ap (λ (l : ScopeElement). first_token c l.head) m.2 ∙ sym g.first ∙ ap (λ (l : PrimitiveElement). l.first) same;
    }

names-of-primitive_elements : (primitive_elements : List PrimitiveElement) → flat_names_in (map flat_element primitive_elements) ≡ flat_names primitive_elements
names-of-primitive_elements [] = refl
names-of-primitive_elements (l ∷ primitive_elements) = ap (λ ns. flat_name l.path ∷ ns) (names-of-primitive_elements primitive_elements)

index-map : {X Y : Type 0} (f : X → Y) (xs : List X) (k : ℕ) (d : X) → slice_index_or (map f xs) k (f d) ≡ f (slice_index_or xs k d)
index-map f [] k d = refl
index-map f (x ∷ xs) zero d = refl
index-map f (x ∷ xs) (suc k) d = index-map f xs k d

length-of-map : {X Y : Type 0} (f : X → Y) (xs : List X) → length (map f xs) ≡ length xs
length-of-map f [] = refl
length-of-map f (x ∷ xs) = ap suc (length-of-map f xs)

whole-primitive_elements : (primitive_elements : List PrimitiveElement) → All (λ (e : FlatElement). is_whole e.text ≡ true) (map flat_element primitive_elements) → All (λ (l : PrimitiveElement). is_whole l.text ≡ true) primitive_elements
whole-primitive_elements primitive_elements h = λ k d l.
    ap (λ (e : FlatElement). is_whole e.text) (sym (index-map flat_element primitive_elements k d)) ∙ h k (flat_element d) (subst (λ n. k < n) (sym (length-of-map flat_element primitive_elements)) l)

taken-primitive_elements : (front back : List PrimitiveElement) (l : PrimitiveElement) (i : ℕ) → length front ≡ i → take i (map flat_element (front ++ l ∷ back)) ≡ map flat_element front
taken-primitive_elements [] back l i e = subst (λ j. take j (map flat_element (l ∷ back)) ≡ []) e refl
taken-primitive_elements (f ∷ front) back l i e =
    subst (λ j. take j (map flat_element (f ∷ front ++ l ∷ back)) ≡ map flat_element (f ∷ front)) e
    (ap (λ xs. flat_element f ∷ xs) (taken-primitive_elements front back l (length front) refl))

-- the flat element at an index, and those before it
record IsPrimitiveElementAt (primitive_elements : List PrimitiveElement) (es : List FlatElement) (i : ℕ) (e : FlatElement) : Type 0 where
  primitive_element : PrimitiveElement
  there : slice_get primitive_elements i ≡ Some primitive_element
  same : flat_element primitive_element ≡ e
  front : List PrimitiveElement
  back : List PrimitiveElement
  splits : primitive_elements ≡ front ++ primitive_element ∷ back
  before : take i es ≡ map flat_element front

primitive_element-at : (primitive_elements : List PrimitiveElement) (es : List FlatElement) (i : ℕ) (e : FlatElement) → es ≡ map flat_element primitive_elements → slice_get es i ≡ Some e → IsPrimitiveElementAt primitive_elements es i e
primitive_element-at primitive_elements es i e h t =
    let m = map-there flat_element primitive_elements i e (ap (λ xs. slice_get xs i) (sym h) ∙ t) in
    let a = at-place primitive_elements i m.0 m.1 in
    record {
      primitive_element = m.0;
      there = m.1;
      same = m.2;
      front = a.front;
      back = a.back;
      splits = a.is;
      before = ap (take i) (h ∙ ap (map flat_element) a.is) ∙ taken-primitive_elements a.front a.back m.0 i a.count;
    }

pub repeated-in : (primitive_elements : List PrimitiveElement) (es : List FlatElement) (i : ℕ) (t : Span) → es ≡ map flat_element primitive_elements → IsRepeated es i →
    ((f : PrimitiveElement) → slice_get primitive_elements i ≡ Some f → t ≡ f.first) → IsRefusedOf primitive_elements (Some (refused.At (kind.Use wrong_use.DeclaredTwice) t))
repeated-in primitive_elements es i t h r first =
    let a = primitive_element-at primitive_elements es i r.element h r.there in
    let names : flat_names_in (take i es) ≡ flat_names a.front = ap flat_names_in a.before ∙ names-of-primitive_elements a.front in
    let name : r.element.name ≡ flat_name a.primitive_element.path = ap (λ (e : FlatElement). e.name) (sym a.same) in
    (refl, (a.front, a.back, a.primitive_element, a.splits, subst AreDistinct names r.front, subst (λ n. Contains (flat_names a.front) n) name (subst (λ ns. Contains ns r.element.name) names r.taken), first a.primitive_element a.there))

pub broken-in : (primitive_elements : List PrimitiveElement) (es : List FlatElement) (i : ℕ) (name : List ℕ) → es ≡ map flat_element primitive_elements → AreDistinct (flat_names_in es) → IsBroken es i →
    ((e : FlatElement) → slice_get es i ≡ Some e → name ≡ e.name) → IsRefusedOf primitive_elements (Some (refused.Broken name))
broken-in primitive_elements es i name h d b named =
    let a = primitive_element-at primitive_elements es i b.element h b.there in (
      subst AreDistinct (ap flat_names_in h ∙ names-of-primitive_elements primitive_elements) d,
      (
        a.front,
        a.back,
        a.primitive_element,
        a.splits,
        whole-primitive_elements a.front (subst (All (λ (e : FlatElement). is_whole e.text ≡ true)) a.before b.front),
        ap (λ (e : FlatElement). is_whole e.text) a.same ∙ b.broken,
        named b.element b.there ∙ ap (λ (e : FlatElement). e.name) (sym a.same),
      ),
    )

pub nothing-in : (primitive_elements : List PrimitiveElement) (es : List FlatElement) → es ≡ map flat_element primitive_elements → AreDistinct (flat_names_in es) → All (λ (e : FlatElement). is_whole e.text ≡ true) es →
    IsRefusedOf primitive_elements None
nothing-in primitive_elements es h d w =
    (subst AreDistinct (ap flat_names_in h ∙ names-of-primitive_elements primitive_elements) d, whole-primitive_elements primitive_elements (subst (All (λ (e : FlatElement). is_whole e.text ≡ true)) h w))

first-in : (c : Config) (h : Head) → first_in c.bodies h ≡ first_token c h
first-in c (head.Word s) = refl
first-in c (head.Declared s d) = refl
first-in c (head.Compound b) = refl

pub same-first : (c : Config) (h k : Head) (s : Span) → k ≡ h → first_token c k ≡ s → first_in c.bodies h ≡ s
same-first c h k s e f = first-in c h ∙ ap (first_token c) (sym e) ∙ f
