-- The flat names of elements, by the way outwards.
use Rattle.std.proofs.Common.{◌≡◌, ℕ, ◌<◌, List, [], ◌∷◌, ◌++◌, map, reverse, nat_lt, Bool, true, false, cond, Option, Some, None, refl, sym, ap, ◌∙◌, subst, append_assoc, arith}
use Rattle.std.specs.List.{slice_get}
use Rattle.std.proofs.lemmas.Bool.Decides.{nat_tests}
use Rattle.std.proofs.lemmas.List.{append-nil, reverse-append, map_push}
use Rattle.std.proofs.lemmas.Option.{same_Some, slice_get_within, none-some}
use Rattle.click_text.specs.declared.syntax.Config.{Config}
use Rattle.click_scopes.specs.Elements.{ScopeElement}
use Rattle.click_expand.specs.Flat.{flat_name}
use Rattle.click_expand.specs.Instances.{PrimitiveElement}
use Rattle.click_scopes.specs.kept.Tables.{scope_element_of}
use Rattle.click_scopes.specs.kept.AllScopes.{AreAllScopes}
use Rattle.click_expand.specs.kept.KnownInstances.{KnownInstance, the_whole, scope_elements_at, IsEnclosing, AreInstances}
use Rattle.click_expand.specs.kept.Ways.{instance_name, name_of_place, smaller, enclosing_of_instance, enclosing_in, slashed}
use Rattle.click_scopes.specs.kept.Lookups.{local_name, scope_name}
use Rattle.click_scopes.specs.declared.scopes.Scope.{Scope as ScopeKept}
use Rattle.click_expand.specs.declared.instances.tree.Place.{Place}
use Rattle.click_expand.specs.declared.instances.tree.Instance.{Instance as InstanceKept}
use Rattle.click_scopes.proofs.OfLists.ListParts.{map-there}
use Rattle.click_expand.proofs.OfAnswers.Tokens.{some-at}

named : (c : Config) (scopes : List ScopeKept) (instances : List InstanceKept) (places : List Place) (known : List KnownInstance) (primitive_elements : List PrimitiveElement) → AreAllScopes c scopes →
    AreInstances c instances places known primitive_elements → (p : Place) (k : InstanceKept) (o : KnownInstance) (l : ScopeElement) → slice_get instances p.within ≡ Some k → slice_get known p.within ≡ Some o →
    slice_get (scope_elements_at c o) p.element ≡ Some l → name_of_place scopes instances p ≡ l.name
named c scopes instances places known primitive_elements all used p k o l there knows scope_element =
    let u = used.each p.within k there in
    let here : u.0 ≡ o = same_Some u.0 o (sym u.1 ∙ knows) in
    let ls = all u.0.scope u.0.visible u.0.enclosing u.2.stands in
    let m = map-there (scope_element_of c.text) ls.0.elements.items p.element l (ap (λ zs. slice_get zs p.element) (ls.2.elements ∙ ap (scope_elements_at c) here) ∙ scope_element) in
    ap (instance_name scopes p.element) there ∙ ap (scope_name p.element) (ap (slice_get scopes) u.2.scope ∙ ls.1) ∙ ap local_name m.1 ∙ ap (λ (x : ScopeElement). x.name) m.2

-- the way outwards from an instance to another
abbrev pub IsWalked : List InstanceKept → ℕ → ℕ → List Place → Type 0
IsWalked instances within at way =
    (c : Config) (scopes : List ScopeKept) (places : List Place) (known : List KnownInstance) (primitive_elements : List PrimitiveElement) (x : KnownInstance) → AreAllScopes c scopes →
    AreInstances c instances places known primitive_elements → slice_get known within ≡ Some x → (y : KnownInstance) × (slice_get known at ≡ Some y) × (x.path ≡ y.path ++ reverse (map (name_of_place scopes instances) way))

pub walked-first : (instances : List InstanceKept) (within : ℕ) (way : List Place) → way ≡ [] → IsWalked instances within within way
walked-first instances within way e = λ c scopes places known primitive_elements x all used there.
    (x, there, sym (append-nil x.path) ∙ ap (λ ps. x.path ++ reverse (map (name_of_place scopes instances) ps)) (sym e))

smaller-is : (o : Option Place) (u : ℕ) (p : Place) → smaller o u ≡ Some p → (o ≡ Some p) × (p.within < u)
smaller-is None u p e = absurd (none-some p e)
smaller-is (Some q) u p e = by-test (nat_lt q.within u) refl e
  where
    by-test : (b : Bool) → nat_lt q.within u ≡ b → cond b (Some q) None ≡ Some p → (Some q ≡ Some p) × (p.within < u)
    by-test true t f = (f, subst (λ (r : Place). r.within < u) (same_Some q p f) (let l : q.within < u = grind (arith, nat_tests) in l))
    by-test false t f = absurd (none-some p f)

use-at : (instances : List InstanceKept) (u : ℕ) (p : Place) → enclosing_in instances u ≡ Some p → (k : InstanceKept) × (slice_get instances u ≡ Some k) × (k.enclosing ≡ Some p) × (p.within < u)
use-at instances u p e = by-use (slice_get instances u) refl e
  where
    by-use : (o : Option InstanceKept) → slice_get instances u ≡ o → enclosing_of_instance o u ≡ Some p → (k : InstanceKept) × (slice_get instances u ≡ Some k) × (k.enclosing ≡ Some p) × (p.within < u)
    by-use None t f = absurd (none-some p f)
    by-use (Some k) t f = let s = smaller-is k.enclosing u p f in (k, t, s.0, s.1)

pub enclosing-smaller : (instances : List InstanceKept) (u : ℕ) (p : Place) → enclosing_in instances u ≡ Some p → p.within < u
enclosing-smaller instances u p e = (use-at instances u p e).3

one-more : (f : Place → List ℕ) (way : List Place) (p : Place) → reverse (map f (way ++ p ∷ [])) ≡ f p ∷ reverse (map f way)
one-more f way p = ap reverse (map_push f way p) ∙ reverse-append (map f way) (f p ∷ [])

pub walked-next : (instances : List InstanceKept) (within at : ℕ) (way new : List Place) (p : Place) → enclosing_in instances at ≡ Some p → new ≡ way ++ p ∷ [] → IsWalked instances within at way →
    IsWalked instances within p.within new
walked-next instances within at way new p e is walked = λ c scopes places known primitive_elements x all used there.
    let v = walked c scopes places known primitive_elements x all used there in
    let k = use-at instances at p e in
    let u = used.each at k.0 k.1 in
    let same : v.0 ≡ u.0 = same_Some v.0 u.0 (sym v.1 ∙ u.1) in
    let a = subst (IsEnclosing c known at u.0) k.2 u.2.enclosing in
    let o = a.1.0 in let inner = a.1.2 in
    let own = u.2.own p k.2 in
    let name = named c scopes instances places known primitive_elements all used p own.0 o inner.scope_element own.1 a.1.1 inner.there in
    let f = name_of_place scopes instances in
    let r = reverse (map f way) in (
      o,
      a.1.1,
      v.2 ∙ ap (λ (y : KnownInstance). y.path ++ r) same ∙ ap (λ ns. ns ++ r) inner.path ∙ append_assoc o.path (inner.scope_element.name ∷ []) r ∙ ap (λ n. o.path ++ n ∷ r) (sym name)
          ∙ ap (λ ns. o.path ++ ns) (sym (one-more f way p)) ∙ ap (λ ps. o.path ++ reverse (map f ps)) (sym is),
    )

outermost : (c : Config) (known : List KnownInstance) (u : ℕ) (x : KnownInstance) (o : Option Place) → smaller o u ≡ None → IsEnclosing c known u x o → x ≡ the_whole
outermost c known u x None e h = h.1
outermost c known u x (Some p) e h = absurd (none-some p (sym e ∙ below (nat_lt p.within u) refl))
  where
    below : (b : Bool) → nat_lt p.within u ≡ b → cond b (Some p) None ≡ Some p
    below true t = refl
    below false t = let l : p.within < u = h.0 in absurd (grind (arith, nat_tests))

enclosing-none : (instances : List InstanceKept) (u : ℕ) (k : InstanceKept) → slice_get instances u ≡ Some k → enclosing_in instances u ≡ None → smaller k.enclosing u ≡ None
enclosing-none instances u k t e = sym (ap (λ o. enclosing_of_instance o u) t) ∙ e

pub walked-all : (instances : List InstanceKept) (within at : ℕ) (way : List Place) → enclosing_in instances at ≡ None → IsWalked instances within at way →
    (c : Config) (scopes : List ScopeKept) (places : List Place) (known : List KnownInstance) (primitive_elements : List PrimitiveElement) (x : KnownInstance) → AreAllScopes c scopes →
    AreInstances c instances places known primitive_elements → slice_get known within ≡ Some x → x.path ≡ reverse (map (name_of_place scopes instances) way)
walked-all instances within at way e walked c scopes places known primitive_elements x all used there =
    let v = walked c scopes places known primitive_elements x all used there in
    let k = some-at instances at (subst (λ n. at < n) used.as_many (slice_get_within known at v.0 v.1)) in
    let u = used.each at k.0 k.1 in
    let same : v.0 ≡ u.0 = same_Some v.0 u.0 (sym v.1 ∙ u.1) in
    let top = outermost c known at u.0 k.0.enclosing (enclosing-none instances at k.0 k.1 e) u.2.enclosing in
    v.2 ∙ ap (λ (y : KnownInstance). y.path ++ reverse (map (name_of_place scopes instances) way)) (same ∙ top)

-- what is left to write of the way
abbrev pub IsWriting : List ScopeKept → List InstanceKept → ℕ → List Place → List ℕ → Type 0
IsWriting scopes instances within way name =
    (c : Config) (places : List Place) (known : List KnownInstance) (primitive_elements : List PrimitiveElement) (x : KnownInstance) → AreAllScopes c scopes → AreInstances c instances places known primitive_elements →
    slice_get known within ≡ Some x → slashed x.path ≡ name ++ slashed (reverse (map (name_of_place scopes instances) way))

pub writing-first : (scopes : List ScopeKept) (instances : List InstanceKept) (within : ℕ) (way : List Place) (name : List ℕ) → name ≡ [] →
    ((c : Config) (scopes : List ScopeKept) (places : List Place) (known : List KnownInstance) (primitive_elements : List PrimitiveElement) (x : KnownInstance) → AreAllScopes c scopes →
    AreInstances c instances places known primitive_elements → slice_get known within ≡ Some x → x.path ≡ reverse (map (name_of_place scopes instances) way)) → IsWriting scopes instances within way name
writing-first scopes instances within way name e h = λ c places known primitive_elements x all used there.
    ap slashed (h c scopes places known primitive_elements x all used there) ∙ ap (λ n. n ++ slashed (reverse (map (name_of_place scopes instances) way))) (sym e)

pub writing-next : (scopes : List ScopeKept) (instances : List InstanceKept) (within : ℕ) (way rest : List Place) (p : Place) (name named new : List ℕ) → way ≡ rest ++ p ∷ [] →
    named ≡ name ++ name_of_place scopes instances p → new ≡ named ++ 47 ∷ [] → IsWriting scopes instances within way name → IsWriting scopes instances within rest new
writing-next scopes instances within way rest p name named new e f g h = λ c places known primitive_elements x all used there.
    let nm = name_of_place scopes instances in
    let tail = slashed (reverse (map nm rest)) in
    h c places known primitive_elements x all used there ∙ ap (λ ps. name ++ slashed (reverse (map nm ps))) e ∙ ap (λ ns. name ++ slashed ns) (one-more nm rest p)
    ∙ sym (append_assoc name (nm p) (47 ∷ tail)) ∙ sym (append_assoc (name ++ nm p) (47 ∷ []) tail) ∙ ap (λ n. (n ++ 47 ∷ []) ++ tail) (sym f) ∙ ap (λ n. n ++ tail) (sym g)

flat-slashed : (ns : List (List ℕ)) (n : List ℕ) → slashed ns ++ n ≡ flat_name (ns ++ n ∷ [])
flat-slashed [] n = refl
flat-slashed (m ∷ []) n = append_assoc m (47 ∷ []) n
flat-slashed (m ∷ k ∷ ns) n = append_assoc m (47 ∷ slashed (k ∷ ns)) n ∙ ap (λ s. m ++ 47 ∷ s) (flat-slashed (k ∷ ns) n)

pub written : (scopes : List ScopeKept) (instances : List InstanceKept) (place : Place) (way : List Place) (name new : List ℕ) → way ≡ [] → IsWriting scopes instances place.within way name →
    new ≡ name ++ name_of_place scopes instances place → (c : Config) (places : List Place) (known : List KnownInstance) (primitive_elements : List PrimitiveElement) (n : ℕ) (primitive_element : PrimitiveElement) → AreAllScopes c scopes →
    AreInstances c instances places known primitive_elements → slice_get places n ≡ Some place → slice_get primitive_elements n ≡ Some primitive_element → new ≡ flat_name primitive_element.path
written scopes instances place way name new e h is c places known primitive_elements n primitive_element all used there found =
    let r = used.primitive_element n place there in
    let same : r.0 ≡ primitive_element = same_Some r.0 primitive_element (sym r.1 ∙ found) in
    let g = r.2 in
    let w = h c places known primitive_elements g.used all used g.instance_is_there in
    let done : slashed g.used.path ≡ name = w ∙ ap (λ ps. name ++ slashed (reverse (map (name_of_place scopes instances) ps))) e ∙ append-nil name in
    let last = named c scopes instances places known primitive_elements all used place g.instance_kept g.used g.scope_element g.instance_there g.instance_is_there g.scope_element_there in
    is ∙ ap (λ s. s ++ name_of_place scopes instances place) (sym done) ∙ ap (λ s. slashed g.used.path ++ s) last ∙ flat-slashed g.used.path g.scope_element.name
    ∙ ap flat_name (sym g.path ∙ ap (λ (f : PrimitiveElement). f.path) same)
