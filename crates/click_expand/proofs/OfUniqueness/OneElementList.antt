-- A configuration has at most one list of flat elements, and a sound one has one.
use Rattle.std.proofs.Common.{◌≡◌, ℕ, zero, suc, ◌+◌, ◌<◌, List, [], ◌∷◌, ◌++◌, Some, refl, sym, ap, ◌∙◌, subst, arith, Contains}
use Rattle.click_base.specs.declared.class.Class.{Class}
use Rattle.click_text.specs.declared.syntax.Span.{Span}
use Rattle.click_text.specs.declared.syntax.Statement.{Statement}
use Rattle.click_text.specs.declared.syntax.Config.{Config}
use Rattle.click_text.specs.Spans.{bytes_at}
use Rattle.click_text.specs.Arguments.{AreArguments, cut}
use Rattle.click_text.proofs.OfItems.OneItemList.{items_once}
use Rattle.click_text.proofs.OfArguments.OneArgumentList.{arguments-once}
use Rattle.click_text.proofs.OfItems.ItemExistence.{reading}
use Rattle.click_scopes.specs.Scopes.{Scope, whole, inside, Stands, at_top}
use Rattle.click_scopes.specs.Classes.{Meaning, primitive, compound}
use Rattle.click_scopes.specs.Elements.{ScopeElement}
use Rattle.click_scopes.specs.Faults.{elements_of_scope, first_token, IsFaultless}
use Rattle.click_expand.specs.Parameters.{Bindings, replaced, value_in, IsReplaced}
use Rattle.click_expand.specs.Instances.{PrimitiveElement, AreValues, no_values, next_value, ArePrimitiveElements, no_elements, primitive_element, branch, PrimitiveElementsOf}
use Rattle.click_scopes.specs.kept.Nesting.{IsNested}
use Rattle.click_scopes.specs.kept.Scoped.{table_place}
use Rattle.click_scopes.proofs.OfBodies.OneBodyPlace.{stands-once}
use Rattle.click_scopes.proofs.OfLists.ListParts.{contains-here, contains-behind}
use Rattle.click_scopes.proofs.OfBodies.EarlierBodies.{founded}
use Rattle.click_expand.proofs.OfInstances.DistinctElements.{meant}

-- a text with its parameters replaced is only one text
pub replaced-once : (c : Config) (bindings : Bindings) (enclosing : List Scope) (text x y : List ℕ) → IsReplaced c bindings enclosing text x → IsReplaced c bindings enclosing text y → x ≡ y
replaced-once c bindings enclosing text x y h k = h.replaces ∙ ap (replaced (value_in c bindings enclosing) 0) (items_once h.read k.read) ∙ sym k.replaces

pub replaced-exists : (c : Config) (bindings : Bindings) (enclosing : List Scope) (text : List ℕ) → (x : List ℕ) × IsReplaced c bindings enclosing text x
replaced-exists c bindings enclosing text =
    let r = reading text in (replaced (value_in c bindings enclosing) 0 r.0, record { items = r.0; read = r.1; replaces = refl })

pub arguments-exist : (text : List ℕ) → (spans : List Span) × AreArguments text spans
arguments-exist text = let r = reading text in (cut r.0, record { items = r.0; read = r.1; cuts = refl })

module _ (c : Config) (bindings : Bindings) (enclosing : List Scope) (text : List ℕ) where
  pub values-once : (spans : List Span) (xs ys : List (List ℕ)) → AreValues c bindings enclosing text spans xs → AreValues c bindings enclosing text spans ys → xs ≡ ys
  values-once spans xs ys no_values no_values = refl
  values-once spans xs ys (next_value s ss v vs h r) (next_value s' ss' w ws k q) =
      ap (λ x. x ∷ vs) (replaced-once c bindings enclosing (bytes_at text s) v w h k) ∙ ap (λ x. w ∷ x) (values-once ss vs ws r q)

  pub values-exist : (spans : List Span) → (xs : List (List ℕ)) × AreValues c bindings enclosing text spans xs
  values-exist [] = ([], no_values)
  values-exist (s ∷ ss) =
      let v = replaced-exists c bindings enclosing (bytes_at text s) in
      let r = values-exist ss in (v.0 ∷ r.0, next_value s ss v.0 r.0 v.1 r.1)

-- the meaning of an element
both-meant : (l : ScopeElement) (w : Class) (b : ℕ) → l.meaning ≡ Some (primitive w) → l.meaning ≡ Some (compound b) → ⊥
both-meant l w b h k = let e : Some (primitive w) ≡ Some (compound b) = sym h ∙ k in cc

same-primitive : (l : ScopeElement) (w v : Class) → l.meaning ≡ Some (primitive w) → l.meaning ≡ Some (primitive v) → w ≡ v
same-primitive l w v h k = let e : Some (primitive w) ≡ Some (primitive v) = sym h ∙ k in cc

pub same-compound : (l : ScopeElement) (b d : ℕ) → l.meaning ≡ Some (compound b) → l.meaning ≡ Some (compound d) → b ≡ d
same-compound l b d h k = let e : Some (compound b) ≡ Some (compound d) = sym h ∙ k in cc

abbrev AreSame : List PrimitiveElement → List PrimitiveElement → ℕ → ℕ → Type 0
AreSame primitive_elements others n m = (primitive_elements ≡ others) × (n ≡ m)

same-primitive_element : (path : List (List ℕ)) (first : Span) (w v : Class) (t u : List ℕ) (primitive_elements others : List PrimitiveElement) (n m : ℕ) → w ≡ v → t ≡ u → AreSame primitive_elements others n m →
    AreSame (record { path = path; class = w; text = t; first = first } ∷ primitive_elements) (record { path = path; class = v; text = u; first = first } ∷ others) (n + 1) (m + 1)
same-primitive_element path first w v t u primitive_elements others n m e f r = (
  ap (λ x. record { path = path; class = x; text = t; first = first } ∷ primitive_elements) e
      ∙ ap (λ x. record { path = path; class = v; text = x; first = first } ∷ primitive_elements) f
      ∙ ap (λ (x : List PrimitiveElement). record { path = path; class = v; text = u; first = first } ∷ x) r.0,
  ap (λ x. x + 1) r.1,
)

same-branch : (inner others-inner primitive_elements others : List PrimitiveElement) (k j n m : ℕ) → AreSame inner others-inner k j → AreSame primitive_elements others n m →
    AreSame (inner ++ primitive_elements) (others-inner ++ others) (k + n + 1) (j + m + 1)
same-branch inner others-inner primitive_elements others k j n m a b = (
  ap (λ x. x ++ primitive_elements) a.0 ∙ ap (λ x. others-inner ++ x) b.0,
  ap (λ x. x + n + 1) a.1 ∙ ap (λ x. j + x + 1) b.1,
)

-- the flat elements of the instance of a body, with equal values under other names
module _ (c : Config) (path : List (List ℕ)) (bindings : Bindings) (inner : List PrimitiveElement) (n : ℕ) where
  abbrev AreInner : ℕ → List Statement → List Scope → List (List ℕ) → Type 0
  AreInner b visible outer values = ArePrimitiveElements c (inside b) outer path ((b, values) ∷ bindings) (elements_of_scope c (inside b) visible) inner n

  inner-as : (b d : ℕ) (v w : List Statement) (o p : List Scope) (xs ys : List (List ℕ)) → b ≡ d → v ≡ w → o ≡ p → xs ≡ ys → AreInner d w p ys → AreInner b v o xs
  inner-as b d v w o p xs ys eb ev eo ex h =
      subst (λ x. AreInner x v o xs) (sym eb) (subst (λ x. AreInner d x o xs) (sym ev) (subst (λ x. AreInner d w x xs) (sym eo) (subst (AreInner d w p) (sym ex) h)))

module _ (c : Config) (nests : IsNested c) where
  stands-as : (b d : ℕ) (v w : List Statement) (o p : List Scope) → b ≡ d → Stands c (inside b) v o → Stands c (inside d) w p → (v ≡ w) × (o ≡ p)
  stands-as b d v w o p e h k = stands-once c nests (inside b) v w o p h (subst (λ x. Stands c (inside x) w p) (sym e) k)

  -- the elements of an instance have at most one list of flat elements, and one number of paths
  pub primitive_elements-same : (s : Scope) (enclosing : List Scope) (path : List (List ℕ)) (bindings : Bindings) (ls : List ScopeElement) (primitive_elements others : List PrimitiveElement) (n m : ℕ) →
      ArePrimitiveElements c s enclosing path bindings ls primitive_elements n → ArePrimitiveElements c s enclosing path bindings ls others m → (primitive_elements ≡ others) × (n ≡ m)
  primitive_elements-same s enclosing path bindings ls primitive_elements others n m (no_elements s1 a1 p1 b1) (no_elements s2 a2 p2 b2) = (refl, refl)
  primitive_elements-same s enclosing path bindings ls primitive_elements others n m (primitive_element s1 a1 p1 b1 l rest w t more k e h r) (primitive_element s2 a2 p2 b2 l2 rest2 v u more2 j e2 h2 r2) =
      same-primitive_element (path ++ l.name ∷ []) (first_token c l.head) w v t u more more2 k j (same-primitive l w v e e2) (replaced-once c bindings (s ∷ enclosing) l.text t u h h2)
      (primitive_elements-same s enclosing path bindings rest more more2 k j r r2)
  primitive_elements-same s enclosing path bindings ls primitive_elements others n m (primitive_element s1 a1 p1 b1 l rest w t more k e h r) (branch s2 a2 p2 b2 l2 rest2 b v o xs ys inner more2 i j e2 g q st a r2) =
      absurd (both-meant l w b e e2)
  primitive_elements-same s enclosing path bindings ls primitive_elements others n m (branch s1 a1 p1 b1 l rest b v o xs ys inner more i k e g q st a r) (primitive_element s2 a2 p2 b2 l2 rest2 w t more2 j e2 h2 r2) =
      absurd (both-meant l w b e2 e)
  primitive_elements-same s enclosing path bindings ls primitive_elements others n m (branch s1 a1 p1 b1 l rest b v o xs ys inner more i k e g q st a r)
      (branch s2 a2 p2 b2 l2 rest2 d w p zs us inner2 more2 i2 k2 e2 g2 q2 st2 a2' r2) =
      let eb = same-compound l b d e e2 in
      let ex = arguments-once l.text xs zs g g2 in
      let ey = values-once c bindings (s ∷ enclosing) l.text xs ys us q (subst (λ x. AreValues c bindings (s ∷ enclosing) l.text x us) (sym ex) q2) in
      let es = stands-as b d v w o p eb st st2 in
      same-branch inner inner2 more more2 i i2 k k2
      (primitive_elements-same (inside b) o (path ++ l.name ∷ []) ((b, ys) ∷ bindings) (elements_of_scope c (inside b) v) inner inner2 i i2 a
      (inner-as c (path ++ l.name ∷ []) bindings inner2 i2 b d v w o p ys us eb es.0 es.1 ey a2'))
      (primitive_elements-same s enclosing path bindings rest more more2 k k2 r r2)

-- a configuration has at most one list of flat elements
pub primitive_elements-once : (c : Config) → IsNested c → (primitive_elements others : List PrimitiveElement) (n m : ℕ) → PrimitiveElementsOf c primitive_elements n → PrimitiveElementsOf c others m → (primitive_elements ≡ others) × (n ≡ m)
primitive_elements-once c nests primitive_elements others n m h k = primitive_elements-same c nests whole [] [] [] (elements_of_scope c whole []) primitive_elements others n m h k

-- a list of flat elements exists
pub record HasPrimitiveElements (c : Config) (s : Scope) (enclosing : List Scope) (path : List (List ℕ)) (bindings : Bindings) (ls : List ScopeElement) : Type 0 where
  pub primitive_elements : List PrimitiveElement
  pub paths : ℕ
  pub are : ArePrimitiveElements c s enclosing path bindings ls primitive_elements paths

-- the elements of an instance have flat elements, if those of all bodies with lower indices have
module _ (c : Config) (nests : IsNested c) (sound : IsFaultless c) (s : Scope) (visible : List Statement) (enclosing : List Scope) (stands : Stands c s visible enclosing) where
  abbrev HaveInner : Type 0
  HaveInner =
      (b : ℕ) (v : List Statement) (o : List Scope) → Stands c (inside b) v o → b < table_place c s → (path : List (List ℕ)) (bindings : Bindings) →
      HasPrimitiveElements c (inside b) o path bindings (elements_of_scope c (inside b) v)

  has-by : (path : List (List ℕ)) (bindings : Bindings) (l : ScopeElement) (ls : List ScopeElement) (m : Meaning) → HaveInner → Contains (elements_of_scope c s visible) l → l.meaning ≡ Some m →
      HasPrimitiveElements c s enclosing path bindings ls → HasPrimitiveElements c s enclosing path bindings (l ∷ ls)
  has-by path bindings l ls (primitive w) f i e r =
      let t = replaced-exists c bindings (s ∷ enclosing) l.text in
      record {
        primitive_elements = record { path = path ++ l.name ∷ []; class = w; text = t.0; first = first_token c l.head } ∷ r.primitive_elements;
        paths = r.paths + 1;
        are = primitive_element s enclosing path bindings l ls w t.0 r.primitive_elements r.paths e t.1 r.are;
      }
  has-by path bindings l ls (compound b) f i e r =
      let k = founded c nests s visible enclosing stands l b i e in
      let xs = arguments-exist l.text in
      let ys = values-exist c bindings (s ∷ enclosing) l.text xs.0 in
      let h = f b k.inner k.parent k.stands k.below (path ++ l.name ∷ []) ((b, ys.0) ∷ bindings) in
      record {
        primitive_elements = h.primitive_elements ++ r.primitive_elements;
        paths = h.paths + r.paths + 1;
        are = branch s enclosing path bindings l ls b k.inner k.parent xs.0 ys.0 h.primitive_elements r.primitive_elements h.paths r.paths e xs.1 ys.1 k.stands h.are r.are;
      }

  pub has-primitive_elements : (path : List (List ℕ)) (bindings : Bindings) (ls : List ScopeElement) → HaveInner → ((l : ScopeElement) → Contains ls l → Contains (elements_of_scope c s visible) l) →
      HasPrimitiveElements c s enclosing path bindings ls
  has-primitive_elements path bindings [] f g = record { primitive_elements = []; paths = 0; are = no_elements s enclosing path bindings }
  has-primitive_elements path bindings (l ∷ ls) f g =
      let i = g l (contains-here l ls) in
      let m = meant c sound s visible enclosing stands l i in
      has-by path bindings l ls m.0 f i m.1 (has-primitive_elements path bindings ls f (λ k j. g k (contains-behind l ls k j)))

primitive_elements-within : (fuel : ℕ) (c : Config) → IsNested c → IsFaultless c → (s : Scope) (visible : List Statement) (enclosing : List Scope) → Stands c s visible enclosing → table_place c s < fuel →
    (path : List (List ℕ)) (bindings : Bindings) → HasPrimitiveElements c s enclosing path bindings (elements_of_scope c s visible)
primitive_elements-within zero c nests sound s visible enclosing stands l path bindings = absurd (omega (arith, l))
primitive_elements-within (suc fuel) c nests sound s visible enclosing stands l path bindings =
    has-primitive_elements c nests sound s visible enclosing stands path bindings (elements_of_scope c s visible)
    (λ b v o h k p q. primitive_elements-within fuel c nests sound (inside b) v o h (omega (arith, k, l)) p q) (λ x i. i)

-- the elements of each instance have flat elements
pub primitive_elements-at : (c : Config) → IsNested c → IsFaultless c → (s : Scope) (visible : List Statement) (enclosing : List Scope) → Stands c s visible enclosing → (path : List (List ℕ)) (bindings : Bindings) →
    HasPrimitiveElements c s enclosing path bindings (elements_of_scope c s visible)
primitive_elements-at c nests sound s visible enclosing stands path bindings =
    primitive_elements-within (suc (table_place c s)) c nests sound s visible enclosing stands (omega arith) path bindings

-- a sound configuration has flat elements
pub primitive_elements-exist : (c : Config) → IsNested c → IsFaultless c → (primitive_elements : List PrimitiveElement) × (n : ℕ) × PrimitiveElementsOf c primitive_elements n
primitive_elements-exist c nests sound = let r = primitive_elements-at c nests sound whole [] [] at_top [] [] in (r.primitive_elements, r.paths, r.are)
