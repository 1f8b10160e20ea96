-- The connections that the searches from all outputs find.
use Rattle.std.proofs.Common.{◌≡◌, inl, inr, ℕ, ◌+◌, ◌<◌, ◌≤◌, zero, suc, List, [], ◌∷◌, length, Bool, true, false, ◌||◌, Option, Some, None, Contains, refl, sym, ap, ◌∙◌, subst, arith}
use Rattle.std.specs.List.{slice_get, list_any, IsDistinct}
use Rattle.std.specs.Option.{option_copied}
use Rattle.std.specs.Slice.{IsItemAt}
use Rattle.std.specs.Borrow.{Bor}
use Rattle.std.proofs.lemmas.Bool.{cases_order}
use Rattle.std.proofs.lemmas.Option.{slice_get_within, slice_get_past, slice_get_read}
use Rattle.std.proofs.lemmas.Map.Made.{length-le_from_is_member}
use Rattle.indexmap.proofs.CallerLemmas.{Contains-list_any}
use Rattle.click_scopes.specs.declared.written_connections.Owner.TheVariants as owner
use Rattle.click_expand.specs.declared.instances.tree.InstancePart.TheVariants as part
use Rattle.click_expand.specs.declared.instances.tree.Instance.{Instance}
use Rattle.click_expand.specs.declared.connections.connection_index.ScopePort.{ScopePort}
use Rattle.click_expand.specs.declared.connections.connection_index.PortEnds.{PortEnds}
use Rattle.click_expand.specs.declared.connections.connection_index.InstancePort.{InstancePort}
use Rattle.click_expand.specs.declared.connections.connection_index.FlatInput.{FlatInput}
use Rattle.click_expand.specs.declared.connections.connection_index.Reached.{Reached}
use Rattle.click_expand.specs.declared.connections.connection_index.Reached.TheVariants as next
use Rattle.click_expand.specs.declared.connections.connection_index.ConnectionIndex.{ConnectionIndex}
use Rattle.click_expand.specs.declared.flat.Connection.{Connection}
use Rattle.click_expand.specs.kept.Wiring.{instance_port, ends_in, StepsTo, Arrives, at_once, after_connection, IsFrom, IsFromPort, IsFromInstance, Connects, Gains, HasAll}
use Rattle.click_expand.proofs.OfConnections.ConnectionIndex.{key-at}
use Rattle.click_expand.proofs.OfConnections.ConnectionOrder.{same, same_equiv, exact}
use Rattle.click_expand.proofs.OfConnections.Chains.{some_same}
use Rattle.click_expand.proofs.OfConnections.PortSearch.{gains-none, gains-trans, gains-kept, gains-cases, gains-length, gains-weaken}

-- the result of `get`
pub item-is : {X : Type 0} (xs : List X) (i : ℕ) (r : Option (Bor X)) → IsItemAt xs i r → slice_get xs i ≡ option_copied r
item-is xs i None h = slice_get_past xs i h.3
item-is xs i (Some x) h = slice_get_read xs (length xs) i x.now refl h.3.0 h.1

module _ (instances : List Instance) (indices : List ConnectionIndex) (within : ℕ) (p : ScopePort) (one : Instance) (there : slice_get instances within ≡ Some one) where
  module _ (element primitive_element : ℕ) (is : p.owner ≡ owner.Element element) (is_primitive_element : slice_get one.parts element ≡ Some (part.PrimitiveElement primitive_element)) where
    from-port : (k : Connection) → IsFrom instances indices primitive_element (instance_port within p) k → IsFromPort instances indices within p k
    from-port k h =
        let e : k.from ≡ primitive_element = ap (λ (c : Connection). c.from) h.is in
        record {
          used = one;
          there = there;
          element = element;
          owner = is;
          is_primitive_element = is_primitive_element ∙ ap (λ n. Some (part.PrimitiveElement n)) (sym e);
          is_from = subst (λ n. IsFrom instances indices n (instance_port within p) k) (sym e) h;
        }

    of-port : (k : Connection) → IsFromPort instances indices within p k → IsFrom instances indices primitive_element (instance_port within p) k
    of-port k h =
        let u : h.used ≡ one = some_same (sym h.there ∙ there) in
        let g : owner.Element h.element ≡ owner.Element element = sym h.owner ∙ is in
        let e : h.element ≡ element = cc g in
        let l : Some (part.PrimitiveElement k.from) ≡ Some (part.PrimitiveElement primitive_element) = sym h.is_primitive_element ∙ ap (λ (x : Instance). slice_get x.parts h.element) u ∙ ap (slice_get one.parts) e ∙ is_primitive_element in
        let f : k.from ≡ primitive_element = cc l in
        subst (λ n. IsFrom instances indices n (instance_port within p) k) f h.is_from

    pub port-more : (old new : List Connection) → Gains (IsFrom instances indices primitive_element (instance_port within p)) old new → Gains (IsFromPort instances indices within p) old new
    port-more old new g = gains-weaken (IsFrom instances indices primitive_element (instance_port within p)) (IsFromPort instances indices within p) old new from-port g

    pub port-all : (new : List Connection) → HasAll (IsFrom instances indices primitive_element (instance_port within p)) new → HasAll (IsFromPort instances indices within p) new
    port-all new h k m = h k (of-port k m)

-- What comes from the indices below i was gathered: all of it, if there is no more than the limit.
pub record Gathers {X : Type 0} (P : ℕ → X → Type 0) (most i : ℕ) (old new : List X) : Type 0 where
  pub gains : Gains (λ x. (j : ℕ) × P j x) old new
  pub all : length new ≤ most → (j : ℕ) → j < i → HasAll (P j) new

module _ {X : Type 0} (P : ℕ → X → Type 0) (most : ℕ) where
  pub gathers-none : (xs : List X) → Gathers P most 0 xs xs
  gathers-none xs = record { gains = gains-none (λ x. (j : ℕ) × P j x) xs; all = λ few j l. absurd (omega (arith, l)) }

  pub gathers-more : (i : ℕ) (a b d : List X) → Gathers P most i a b → Gains (P i) b d → (length d ≤ most → HasAll (P i) d) → Gathers P most (i + 1) a d
  gathers-more i a b d h g f = record {
    gains = gains-trans (λ x. (j : ℕ) × P j x) a b d h.gains (gains-weaken (P i) (λ x. (j : ℕ) × P j x) b d (λ x p. (i, p)) g);
    all = λ few j l x p. elim (cases_order j i) [
      | inl e ↦ f few x (subst (λ n. P n x) e p)
      | inr (inl m) ↦ (let n = gains-length (P i) b d g in gains-kept (P i) b d g x (h.all (omega (arith, n, few)) j m x p))
      | inr (inr m) ↦ absurd (omega (arith, l, m))
    ];
  }

  pub gathers-skip : (i : ℕ) (a b : List X) → Gathers P most i a b → ((x : X) → P i x → ⊥) → Gathers P most (i + 1) a b
  gathers-skip i a b h f = gathers-more i a b b h (gains-none (P i) b) (λ few x p. absurd (f x p))

module _ (instances : List Instance) (indices : List ConnectionIndex) where
  -- a connection from the port that is the key at index j
  abbrev pub IsFromKey : ℕ → List (ScopePort × PortEnds) → ℕ → Connection → Type 0
  IsFromKey within entries j k = (p : ScopePort) × (v : PortEnds) × (slice_get entries j ≡ Some (p, v)) × IsFromPort instances indices within p k

  first-step : (s : InstancePort) (i : FlatInput) → Arrives instances indices s i → (n : Reached) × StepsTo instances indices s n
  first-step s i (at_once _ _ st) = (next.PrimitiveElement i, st)
  first-step s i (after_connection _ t _ st w) = (next.Start t, st)

  module _ (within : ℕ) (entries : List (ScopePort × PortEnds)) where
    pub key-more : (most i : ℕ) (p : ScopePort) (v : PortEnds) (a b d : List Connection) → Some (p, v) ≡ slice_get entries i → Gathers (IsFromKey within entries) most i a b →
        Gains (IsFromPort instances indices within p) b d → (length d ≤ most → HasAll (IsFromPort instances indices within p) d) → Gathers (IsFromKey within entries) most (i + 1) a d
    key-more most i p v a b d e h g f =
        gathers-more (IsFromKey within entries) most i a b d h
        (gains-weaken (IsFromPort instances indices within p) (IsFromKey within entries i) b d (λ k m. (p, v, sym e, m)) g)
        (λ few k m. let s : Some (p, v) ≡ Some (m.0, m.1) = e ∙ m.2 in let q : p ≡ m.0 = ap (λ (x : ScopePort × PortEnds). x.0) (some_same s) in f few k (subst (λ x. IsFromPort instances indices within x k) (sym q) m.3))

    pub key-none : (most i : ℕ) (a b : List Connection) → None ≡ slice_get entries i → Gathers (IsFromKey within entries) most i a b → Gathers (IsFromKey within entries) most (i + 1) a b
    key-none most i a b e h = gathers-skip (IsFromKey within entries) most i a b h (λ k m. let s : None ≡ Some (m.0, m.1) = e ∙ m.2 in cc s)

    pub use-more : (most i : ℕ) (a b : List Connection) → Gathers (IsFromKey within entries) most i a b → Gains (IsFromInstance instances indices within) a b
    use-more most i a b h =
        gains-weaken (λ k. (j : ℕ) × IsFromKey within entries j k) (IsFromInstance instances indices within) a b (λ k m. record { port = m.1.0; is_from = m.1.3 }) h.gains

  pub use-all : (within : ℕ) (one : Instance) (index : ConnectionIndex) → slice_get instances within ≡ Some one → slice_get indices one.scope ≡ Some index →
      (most i : ℕ) (a b : List Connection) → length index.ends.entries ≤ i → Gathers (IsFromKey within index.ends.entries) most i a b → length b ≤ most → HasAll (IsFromInstance instances indices within) b
  use-all within one index there index_there most i a b end h few k m =
      let s = instance_port within m.port in
      let st = (first-step s m.is_from.is_from.to m.is_from.is_from.arrives).1 in
      let u : st.used ≡ one = some_same (sym st.instance_is_there ∙ there) in
      let x : st.index ≡ index = some_same (sym st.index_there ∙ ap (λ (y : Instance). slice_get indices y.scope) u ∙ index_there) in
      let j = key-at index.ends.entries m.port st.to (subst (λ (y : ConnectionIndex). Contains (ends_in y.ends.entries m.port) st.to) x st.joined) in
      let l = slice_get_within index.ends.entries j.0 (m.port, j.1) j.2 in
      h.all few j.0 (omega (arith, l, end)) k (m.port, j.1, j.2, m.is_from)

  -- there is no such instance, or its scope has no index
  pub use-none : (within : ℕ) → slice_get instances within ≡ None → (k : Connection) → IsFromInstance instances indices within k → ⊥
  use-none within e k m = let s : None ≡ Some m.is_from.used = sym e ∙ m.is_from.there in cc s

  pub use-bare : (within : ℕ) (one : Instance) → slice_get instances within ≡ Some one → slice_get indices one.scope ≡ None → (k : Connection) → IsFromInstance instances indices within k → ⊥
  use-bare within one there e k m =
      let st = (first-step (instance_port within m.port) m.is_from.is_from.to m.is_from.is_from.arrives).1 in
      let u : st.used ≡ one = some_same (sym st.instance_is_there ∙ there) in
      let s : None ≡ Some st.index = sym e ∙ ap (λ (y : Instance). slice_get indices y.scope) (sym u) ∙ st.index_there in cc s

  pub all-sound : (most i : ℕ) (b : List Connection) → Gathers (IsFromInstance instances indices) most i [] b → (k : Connection) → Contains b k → Connects instances indices k
  all-sound most i b h k m =
      elim (gains-cases (λ k. (j : ℕ) × IsFromInstance instances indices j k) [] b h.gains k m) [
        | inl o ↦ absurd (omega (arith, o.1))
        | inr w ↦ record { within = w.0; is_from = w.1 }
      ]

  pub all-complete : (most i : ℕ) (b : List Connection) → length instances ≤ i → Gathers (IsFromInstance instances indices) most i [] b → length b ≤ most → HasAll (Connects instances indices) b
  all-complete most i b end h few k m =
      let l = slice_get_within instances m.within m.is_from.is_from.used m.is_from.is_from.there in
      h.all few m.within (omega (arith, l, end)) k m.is_from

-- a connection in the list passes the test
member : (xs : List Connection) (k : Connection) → Contains xs k → list_any (same k) xs ≡ true
member [] k h = absurd (omega (arith, h.1))
member (x ∷ xs) k (zero, l, e) = ap (λ b. b || list_any (same k) xs) (subst (λ y. same k y ≡ true) (sym e) (same-self k))
  where
    same-self : (k : Connection) → same k k ≡ true
    same-self k = same_equiv.refl k
member (x ∷ xs) k (suc n, l, e) = or-right (same k x) (list_any (same k) xs) (member xs k (n, omega (arith, l), e))
  where
    or-right : (a b : Bool) → b ≡ true → (a || b) ≡ true
    or-right true b h = refl
    or-right false b h = h

-- a list of different connections is no longer than a list that contains them all
pub distinct-within : (xs ys : List Connection) → IsDistinct same xs → ((k : Connection) → Contains xs k → Contains ys k) → length xs ≤ length ys
distinct-within xs ys d f = length-le_from_is_member same_equiv xs ys d (λ k h. member ys k (f k (Contains-list_any same exact xs k h)))
