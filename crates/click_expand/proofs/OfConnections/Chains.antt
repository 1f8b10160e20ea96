-- Chains of written connections, and the steps from instance to instance that follow them.
use Rattle.std.proofs.Common.{◌≡◌, ◌≢◌, ℕ, ◌<◌, zero, suc, List, [], ◌∷◌, ◌++◌, length, true, false, Some, Contains, refl, sym, ap, ◌∙◌, subst, arith}
use Rattle.std.specs.List.{slice_get}
use Rattle.std.specs.Str.{bytes_eq}
use Rattle.std.proofs.lemmas.Slice.Eq.{bytes_eq-Decides}
use Rattle.click_base.specs.declared.class.Class.{Class}
use Rattle.click_text.specs.declared.syntax.Statement.{Statement}
use Rattle.click_text.specs.declared.syntax.Config.{Config}
use Rattle.click_scopes.specs.Scopes.{Scope, inside, Stands, at_top}
use Rattle.click_scopes.specs.Classes.{primitive, compound}
use Rattle.click_scopes.specs.Elements.{ScopeElement, Role, pseudo, refers, makes, input_name, output_name}
use Rattle.click_scopes.specs.Faults.{End, WrittenConnection, is_pseudo, elements_of_scope, scope_connections, IsFaultless, output_as_source, input_as_target}
use Rattle.click_expand.specs.Instances.{LeadsTo, to_whole, to_inner}
use Rattle.click_expand.specs.Connections.{Node, output_of, input_of, begin_node, end_node, Leads, by_connection, further}
use Rattle.click_scopes.specs.kept.Nesting.{IsNested}
use Rattle.click_scopes.specs.kept.WrittenConnections.{IsOwner, IsWrittenConnection, AreWrittenConnections}
use Rattle.click_scopes.specs.declared.fault.WrongUse.TheVariants as kind
use Rattle.click_scopes.specs.declared.written_connections.Owner.{Owner}
use Rattle.click_scopes.specs.declared.written_connections.Owner.TheVariants as owner
use Rattle.click_scopes.specs.declared.written_connections.WrittenConnection.{WrittenConnection as ConnectionKept}
use Rattle.click_scopes.proofs.OfBodies.OneBodyPlace.{stands-once}
use Rattle.click_expand.proofs.OfInstances.DistinctElements.{distinct}

pub some_same : {X : Type 0} {x y : X} → Some x ≡ Some y → x ≡ y
some_same h = cc h

pub push-not-nil : {X : Type 0} (xs : List X) (x : X) → xs ++ x ∷ [] ≡ [] → ⊥
push-not-nil [] x h = cc h
push-not-nil (y ∷ xs) x h = cc h

pub push-same : {X : Type 0} (xs ys : List X) (x y : X) → xs ++ x ∷ [] ≡ ys ++ y ∷ [] → (xs ≡ ys) × (x ≡ y)
push-same [] [] x y h = (refl, let e : x ≡ y = cc h in e)
push-same [] (z ∷ ys) x y h = absurd (let e : [] ≡ ys ++ y ∷ [] = cc h in push-not-nil ys y (sym e))
push-same (w ∷ xs) [] x y h = absurd (let e : xs ++ x ∷ [] ≡ [] = cc h in push-not-nil xs x e)
push-same (w ∷ xs) (z ∷ ys) x y h =
    let a : w ≡ z = cc h in let b : xs ++ x ∷ [] ≡ ys ++ y ∷ [] = cc h in
    let r = push-same xs ys x y b in (ap (λ v. v ∷ xs) a ∙ ap (λ v. z ∷ v) r.0, r.1)

middle-at : {X : Type 0} (xs : List X) (x : X) (ys : List X) → slice_get (xs ++ x ∷ ys) (length xs) ≡ Some x
middle-at [] x ys = refl
middle-at (y ∷ xs) x ys = middle-at xs x ys

pub at-some : {X : Type 0} (xs : List X) (i : ℕ) → i < length xs → (x : X) × (slice_get xs i ≡ Some x)
at-some [] i l = absurd (omega (arith, l))
at-some (x ∷ xs) zero l = (x, refl)
at-some (x ∷ xs) (suc i) l = at-some xs i (omega (arith, l))

written_connection-behind : {X : Type 0} (y : X) (xs : List X) (x : X) → Contains xs x → Contains (y ∷ xs) x
written_connection-behind y xs x (k, l, e) = (suc k, omega (arith, l), e)

-- the written connection of a stored one, and the stored one of a written one
pub written_connection-of : (ls : List ScopeElement) (ks : List ConnectionKept) (js : List WrittenConnection) (k : ConnectionKept) → AreWrittenConnections ls ks js → Contains ks k → (j : WrittenConnection) × Contains js j × IsWrittenConnection ls k j
written_connection-of ls [] js k h m = absurd (omega (arith, m.1))
written_connection-of ls (x ∷ ks) [] k h m = absurd h
written_connection-of ls (x ∷ ks) (j ∷ js) k h (zero, l, e) = (j, (0, omega arith, refl), subst (λ y. IsWrittenConnection ls y j) e h.0)
written_connection-of ls (x ∷ ks) (j ∷ js) k h (suc n, l, e) =
    let r = written_connection-of ls ks js k h.1 (n, omega (arith, l), e) in (r.0, written_connection-behind j js r.0 r.1, r.2)

pub kept-of : (ls : List ScopeElement) (ks : List ConnectionKept) (js : List WrittenConnection) (j : WrittenConnection) → AreWrittenConnections ls ks js → Contains js j → (k : ConnectionKept) × Contains ks k × IsWrittenConnection ls k j
kept-of ls ks [] j h m = absurd (omega (arith, m.1))
kept-of ls [] (i ∷ js) j h m = absurd h
kept-of ls (k ∷ ks) (i ∷ js) j h (zero, l, e) = (k, (0, omega arith, refl), subst (λ y. IsWrittenConnection ls k y) e h.0)
kept-of ls (k ∷ ks) (i ∷ js) j h (suc n, l, e) =
    let r = kept-of ls ks js j h.1 (n, omega (arith, l), e) in (r.0, written_connection-behind k ks r.0 r.1, r.2)

-- the node of a port of an instance, as a source of connections
abbrev pub Denotes : List ScopeElement → List (List ℕ) → Owner → ℕ → Node → Type 0
Denotes ls path owner.Input p n = n ≡ input_of path p
Denotes ls path owner.Output p n = ⊥
Denotes ls path (owner.Element i) p n = (l : ScopeElement) × (slice_get ls i ≡ Some l) × (n ≡ output_of (path ++ l.name ∷ []) p)

-- the node of a port of an instance, as a target of connections
abbrev pub Ends : List ScopeElement → List (List ℕ) → Owner → ℕ → Node → Type 0
Ends ls path owner.Input p n = ⊥
Ends ls path owner.Output p n = n ≡ output_of path p
Ends ls path (owner.Element i) p n = (l : ScopeElement) × (slice_get ls i ≡ Some l) × (n ≡ input_of (path ++ l.name ∷ []) p)

begins-element : (path : List (List ℕ)) (e : End) (p : ℕ) (r : Role) → r ≢ pseudo → begin_node path e r p ≡ output_of (path ++ e.name ∷ []) p
begins-element path e p pseudo h = absurd (h refl)
begins-element path e p refers h = refl
begins-element path e p makes h = refl

ends-element : (path : List (List ℕ)) (e : End) (p : ℕ) (r : Role) → r ≢ pseudo → end_node path e r p ≡ input_of (path ++ e.name ∷ []) p
ends-element path e p pseudo h = absurd (h refl)
ends-element path e p refers h = refl
ends-element path e p makes h = refl

pseudo-named : (w : List ℕ) (e : End) → e.role ≡ pseudo → e.name ≡ w → is_pseudo w e ≡ true
pseudo-named w e r n =
    subst (λ (x : Role). elim x [ pseudo ↦ bytes_eq e.name w | refers ↦ false | makes ↦ false ] ≡ true) (sym r) ((bytes_eq-Decides e.name w).1 n)

pub begin : (ls : List ScopeElement) (path : List (List ℕ)) (o : Owner) (e : End) (p : ℕ) → IsOwner ls o e → (is_pseudo output_name e ≡ true → ⊥) → Denotes ls path o p (begin_node path e e.role p)
begin ls path owner.Input e p h n = ap (λ r. begin_node path e r p) h.0
begin ls path owner.Output e p h n = n (pseudo-named output_name e h.0 h.1)
begin ls path (owner.Element i) e p h n =
    (h.1.0, h.1.1, begins-element path e p e.role h.0 ∙ ap (λ x. output_of (path ++ x ∷ []) p) (sym h.1.2))

pub finish : (ls : List ScopeElement) (path : List (List ℕ)) (o : Owner) (e : End) (p : ℕ) → IsOwner ls o e → (is_pseudo input_name e ≡ true → ⊥) → Ends ls path o p (end_node path e e.role p)
finish ls path owner.Input e p h n = n (pseudo-named input_name e h.0 h.1)
finish ls path owner.Output e p h n = ap (λ r. end_node path e r p) h.0
finish ls path (owner.Element i) e p h n =
    (h.1.0, h.1.1, ends-element path e p e.role h.0 ∙ ap (λ x. input_of (path ++ x ∷ []) p) (sym h.1.2))

-- a port has one node
pub denotes-same : (ls : List ScopeElement) (path : List (List ℕ)) (o : Owner) (p : ℕ) (m n : Node) → Denotes ls path o p m → Denotes ls path o p n → m ≡ n
denotes-same ls path owner.Input p m n h k = h ∙ sym k
denotes-same ls path owner.Output p m n h k = absurd h
denotes-same ls path (owner.Element i) p m n h k =
    let e : h.0 ≡ k.0 = some_same (sym h.1 ∙ k.1) in h.2 ∙ ap (λ (l : ScopeElement). output_of (path ++ l.name ∷ []) p) e ∙ sym k.2

input-same : (p q : List (List ℕ)) (n m : ℕ) → input_of p n ≡ input_of q m → (p ≡ q) × (n ≡ m)
input-same p q n m h = (let a : p ≡ q = cc h in a, let b : n ≡ m = cc h in b)

output-same : (p q : List (List ℕ)) (n m : ℕ) → output_of p n ≡ output_of q m → (p ≡ q) × (n ≡ m)
output-same p q n m h = (let a : p ≡ q = cc h in a, let b : n ≡ m = cc h in b)

pub apart : (p q : List (List ℕ)) (n m : ℕ) → input_of p n ≡ output_of q m → ⊥
apart p q n m h = cc h

-- a node belongs to the instances at one path only
pub path-same : (ls ks : List ScopeElement) (p q : List (List ℕ)) (o r : Owner) (i j : ℕ) (m n : Node) → Denotes ls p o i m → Denotes ks q r j n → m ≡ n → p ≡ q
path-same ls ks p q owner.Input owner.Input i j m n h k e = (input-same p q i j (sym h ∙ e ∙ k)).0
path-same ls ks p q owner.Input owner.Output i j m n h k e = absurd k
path-same ls ks p q owner.Input (owner.Element y) i j m n h k e = absurd (apart p (q ++ k.0.name ∷ []) i j (sym h ∙ e ∙ k.2))
path-same ls ks p q owner.Output r i j m n h k e = absurd h
path-same ls ks p q (owner.Element x) owner.Input i j m n h k e = absurd (apart q (p ++ h.0.name ∷ []) j i (sym k ∙ sym e ∙ h.2))
path-same ls ks p q (owner.Element x) owner.Output i j m n h k e = absurd k
path-same ls ks p q (owner.Element x) (owner.Element y) i j m n h k e =
    (push-same p q h.0.name k.0.name (output-same (p ++ h.0.name ∷ []) (q ++ k.0.name ∷ []) i j (sym h.2 ∙ e ∙ k.2)).0).0

-- if the elements have different names, a node has one port
pub denotes-once : (ls : List ScopeElement) (path : List (List ℕ)) → ((i j : ℕ) (l m : ScopeElement) → slice_get ls i ≡ Some l → slice_get ls j ≡ Some m → l.name ≡ m.name → i ≡ j) →
    (o r : Owner) (i j : ℕ) (n : Node) → Denotes ls path o i n → Denotes ls path r j n → (o ≡ r) × (i ≡ j)
denotes-once ls path d owner.Input owner.Input i j n h k = (refl, (input-same path path i j (sym h ∙ k)).1)
denotes-once ls path d owner.Input owner.Output i j n h k = absurd k
denotes-once ls path d owner.Input (owner.Element y) i j n h k = absurd (apart path (path ++ k.0.name ∷ []) i j (sym h ∙ k.2))
denotes-once ls path d owner.Output r i j n h k = absurd h
denotes-once ls path d (owner.Element x) owner.Input i j n h k = absurd (apart path (path ++ h.0.name ∷ []) j i (sym k ∙ h.2))
denotes-once ls path d (owner.Element x) owner.Output i j n h k = absurd k
denotes-once ls path d (owner.Element x) (owner.Element y) i j n h k =
    let e = output-same (path ++ h.0.name ∷ []) (path ++ k.0.name ∷ []) i j (sym h.2 ∙ k.2) in
    (ap (λ z. owner.Element z) (d x y h.0 k.0 h.1 k.1 (push-same path path h.0.name k.0.name e.0).1), e.1)

module _ (c : Config) (nested : IsNested c) (sound : IsFaultless c) where
  pub leads-stands : (path : List (List ℕ)) (s : Scope) (v : List Statement) → LeadsTo c path s v → (enclosing : List Scope) × Stands c s v enclosing
  leads-stands _ _ _ to_whole = ([], at_top)
  leads-stands _ _ _ (to_inner path s visible before after l b inner outer h e m st) = (outer, st)

  pub names-apart : (s : Scope) (v : List Statement) (enclosing : List Scope) → Stands c s v enclosing →
      (i j : ℕ) (l m : ScopeElement) → slice_get (elements_of_scope c s v) i ≡ Some l → slice_get (elements_of_scope c s v) j ≡ Some m → l.name ≡ m.name → i ≡ j
  names-apart s v enclosing st i j l m = distinct c sound s v enclosing st i j l m

  -- two elements of a scope with the same name are the same
  pub scope_element-same : (s t : Scope) (v w : List Statement) (enclosing : List Scope) → Stands c s v enclosing → s ≡ t → v ≡ w → (i j : ℕ) (l m : ScopeElement) →
      slice_get (elements_of_scope c s v) i ≡ Some l → slice_get (elements_of_scope c t w) j ≡ Some m → l.name ≡ m.name → l ≡ m
  scope_element-same s t v w enclosing st p q i j l m h k e =
      let k' : slice_get (elements_of_scope c s v) j ≡ Some m = ap (λ x. slice_get (elements_of_scope c x v) j) p ∙ ap (λ x. slice_get (elements_of_scope c t x) j) q ∙ k in
      some_same (sym h ∙ ap (slice_get (elements_of_scope c s v)) (names-apart s v enclosing st i j l m h k' e) ∙ k')

  scope_element-there : (s : Scope) (v : List Statement) (before after : List ScopeElement) (l : ScopeElement) → elements_of_scope c s v ≡ before ++ l ∷ after → slice_get (elements_of_scope c s v) (length before) ≡ Some l
  scope_element-there s v before after l e = ap (λ x. slice_get x (length before)) e ∙ middle-at before l after

  -- a path leads to one scope only
  pub leads-once : (p q : List (List ℕ)) (s t : Scope) (v w : List Statement) → LeadsTo c p s v → LeadsTo c q t w → p ≡ q → (s ≡ t) × (v ≡ w)
  leads-once _ _ _ _ _ _ to_whole to_whole e = (refl, refl)
  leads-once _ _ _ _ _ _ to_whole (to_inner q t w before after l b inner outer h is m st) e = absurd (push-not-nil q l.name (sym e))
  leads-once _ _ _ _ _ _ (to_inner p s v before after l b inner outer h is m st) to_whole e = absurd (push-not-nil p l.name e)
  leads-once _ _ _ _ _ _ (to_inner p s v before after l b inner outer h is m st) (to_inner q t w before' after' l' b' inner' outer' h' is' m' st') e =
      let n = push-same p q l.name l'.name e in
      let r = leads-once p q s t v w h h' n.0 in
      let z = leads-stands p s v h in
      let same : l ≡ l' = scope_element-same s t v w z.0 z.1 r.0 r.1 (length before) (length before') l l' (scope_element-there s v before after l is) (scope_element-there t w before' after' l' is') n.1 in
      let g : Some (compound b) ≡ Some (compound b') = sym m ∙ ap (λ (x : ScopeElement). x.meaning) same ∙ m' in
      let k : b ≡ b' = cc g in
      (ap inside k, (stands-once c nested (inside b) inner inner' outer outer' st (subst (λ x. Stands c (inside x) inner' outer') (sym k) st')).0)

  -- no path leads to a scope at an element of one of the router's classes
  pub no-scope : (p : List (List ℕ)) (s : Scope) (v : List Statement) (i : ℕ) (l : ScopeElement) (class : Class) → LeadsTo c p s v → slice_get (elements_of_scope c s v) i ≡ Some l →
      l.meaning ≡ Some (primitive class) → (q : List (List ℕ)) (t : Scope) (w : List Statement) → LeadsTo c q t w → q ≡ p ++ l.name ∷ [] → ⊥
  no-scope p s v i l class h there m _ _ _ to_whole e = push-not-nil p l.name (sym e)
  no-scope p s v i l class h there m _ _ _ (to_inner q t w before after l' b inner outer h' is m' st) e =
      let n = push-same q p l'.name l.name e in
      let r = leads-once p q s t v w h h' (sym n.0) in
      let z = leads-stands p s v h in
      let same : l ≡ l' = scope_element-same s t v w z.0 z.1 r.0 r.1 i (length before) l l' there (scope_element-there t w before after l' is) (sym n.1) in
      let g : Some (primitive class) ≡ Some (compound b) = sym m ∙ ap (λ (x : ScopeElement). x.meaning) same ∙ m' in
      cc g

  begins-input : (path q : List (List ℕ)) (e : End) (p n : ℕ) (r : Role) → begin_node path e r p ≡ input_of q n → path ≡ q
  begins-input path q e p n pseudo h = (input-same path q p n h).0
  begins-input path q e p n refers h = absurd (apart q (path ++ e.name ∷ []) n p (sym h))
  begins-input path q e p n makes h = absurd (apart q (path ++ e.name ∷ []) n p (sym h))

  begins-top : (path : List (List ℕ)) (e : End) (p n : ℕ) (r : Role) → begin_node path e r p ≡ output_of [] n → ⊥
  begins-top path e p n pseudo h = apart path [] p n h
  begins-top path e p n refers h = push-not-nil path e.name (output-same (path ++ e.name ∷ []) [] p n h).0
  begins-top path e p n makes h = push-not-nil path e.name (output-same (path ++ e.name ∷ []) [] p n h).0

  -- no connection leads on from an input that does not belong to a scope
  pub nothing-behind : (q : List (List ℕ)) (n : ℕ) → ((t : Scope) (w : List Statement) → LeadsTo c q t w → ⊥) → (a b : Node) → Leads c a b → a ≡ input_of q n → ⊥
  nothing-behind q n f _ _ (by_connection path s visible j h m) e =
      let r = begins-input path q j.from j.out_port n j.from.role e in f s visible (subst (λ x. LeadsTo c x s visible) r h)
  nothing-behind q n f _ _ (further a b d x y) e = nothing-behind q n f a b x e

  -- no connection leads on from an output of the whole text
  pub nothing-out : (n : ℕ) (a b : Node) → Leads c a b → a ≡ output_of [] n → ⊥
  nothing-out n _ _ (by_connection path s visible j h m) e = begins-top path j.from j.out_port n j.from.role e
  nothing-out n _ _ (further a b d x y) e = nothing-out n a b x e

  -- the ends of a connection of a sound configuration
  module _ (s : Scope) (v : List Statement) (enclosing : List Scope) (st : Stands c s v enclosing) (path : List (List ℕ)) (k : ConnectionKept) (j : WrittenConnection) (m : Contains (scope_connections c s v) j)
      (h : IsWrittenConnection (elements_of_scope c s v) k j) where
    pub written_connection-begins : Denotes (elements_of_scope c s v) path k.from.owner j.out_port (begin_node path j.from j.from.role j.out_port)
    written_connection-begins = begin (elements_of_scope c s v) path k.from.owner j.from j.out_port h.from.owner (λ e. sound kind.CompoundPort j.from.first (output_as_source s v enclosing j st m e))

    pub written_connection-ends : Ends (elements_of_scope c s v) path k.to.owner j.in_port (end_node path j.to j.to.role j.in_port)
    written_connection-ends = finish (elements_of_scope c s v) path k.to.owner j.to j.in_port h.to.owner (λ e. sound kind.CompoundPort j.to.first (input_as_target s v enclosing j st m e))
