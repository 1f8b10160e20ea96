-- A search through a scope finds the outputs to which connections from one of its inputs lead.
use Rattle.std.proofs.Common.{◌≡◌, ◌⊎◌, inl, inr, ℕ, ◌+◌, ◌<◌, ◌≤◌, zero, suc, List, [], ◌∷◌, ◌++◌, length, get_or, take, Option, Some, Contains, refl, sym, ap, ◌∙◌, subst, arith}
use Rattle.std.specs.List.{slice_get}
use Rattle.std.proofs.lemmas.Bool.{cases_order}
use Rattle.std.proofs.lemmas.List.{take_more}
use Rattle.std.proofs.lemmas.Option.{slice_get_within}
use Rattle.std.proofs.lemmas.List.Elements.{Contains-append_left, Contains-append_right, Contains-append_cases}
use Rattle.indexmap.specs.IndexSet.{insert_key}
use Rattle.indexmap.proofs.CallerLemmas.{Contains-insert_key}
use Rattle.click_scopes.specs.declared.written_connections.Owner.{Owner}
use Rattle.click_scopes.specs.declared.written_connections.Owner.TheVariants as owner
use Rattle.click_expand.specs.declared.connections.connection_index.ScopePort.{ScopePort}
use Rattle.click_expand.specs.declared.connections.connection_index.ConnectionIndex.{ConnectionIndex}
use Rattle.click_expand.specs.kept.Wiring.{scope_port, same_port, ends_in, Gains, HasAll}
use Rattle.click_expand.specs.kept.Passthrough.{index_ends, LeadsInScope, by_one_connection, over, Lands, on_element, inside_compound, LeadsThrough, StandsIn, same, alike, AreStoodFor, AreShortened, IsOutputOf, GoesOver, GoesOut, AllLeadThrough, GoesOnBehind, AreEndsOf, LeadAlike}
use Rattle.click_expand.proofs.OfConnections.ConnectionIndex.{port-exact}
use Rattle.click_expand.proofs.OfConnections.PortSearch.{contains-at, at-contains, gains-none, gains-trans, gains-kept, gains-cases, gains-at, gains-insert, gains-weaken}

some_same : {X : Type 0} {x y : X} → Some x ≡ Some y → x ≡ y
some_same h = cc h

contains-single : {X : Type 0} (x y : X) → Contains (x ∷ []) y → x ≡ y
contains-single x y (zero, l, e) = e
contains-single x y (suc k, l, e) = absurd (omega (arith, l))

-- a port with a given owner
port-of : (p : ScopePort) (o : Owner) → p.owner ≡ o → p ≡ scope_port o p.number
port-of p o e = ap (λ x. scope_port x p.number) e

-- one more port with that owner
pub owned-next : (o : Owner) (es : List ScopePort) (i : ℕ) (e d : ScopePort) → i < length es → e ≡ get_or es i d → ((p : ScopePort) → Contains (take i es) p → p.owner ≡ o) → e.owner ≡ o →
    (p : ScopePort) → Contains (take (i + 1) es) p → p.owner ≡ o
owned-next o es i e d l is all own p h =
    elim (Contains-append_cases (take i es) (e ∷ []) p (subst (λ (t : List ScopePort). Contains t p) (take_more es i d l ∙ ap (λ y. take i es ++ y ∷ []) (sym is)) h)) [
      | inl m ↦ all p m
      | inr m ↦ ap (λ (q : ScopePort). q.owner) (sym (contains-single e p m)) ∙ own
    ]

module _ (element : ℕ) where
  outputs-push : (t : List ScopePort) (e : ScopePort) (a b x : List ScopePort) → Gains (IsOutputOf element t) a b × HasAll (IsOutputOf element t) b → x ≡ insert_key same_port b (scope_port (owner.Element element) e.number) →
      Gains (IsOutputOf element (t ++ e ∷ [])) a x × HasAll (IsOutputOf element (t ++ e ∷ [])) x
  outputs-push t e a b x h new =
      let here = scope_port (owner.Element element) e.number in
      let now : IsOutputOf element (t ++ e ∷ []) here = (e, Contains-append_right t (e ∷ []) e (0, omega arith, refl), refl) in
      let one = gains-insert (IsOutputOf element (t ++ e ∷ [])) same_port b x here new now in (
        gains-trans (IsOutputOf element (t ++ e ∷ [])) a b x
            (gains-weaken (IsOutputOf element t) (IsOutputOf element (t ++ e ∷ [])) a b (λ p m. (m.0, Contains-append_left t (e ∷ []) m.0 m.1, m.2)) h.0) one,
        λ p m. elim (Contains-append_cases t (e ∷ []) m.0 m.1) [
          | inl o ↦ gains-kept (IsOutputOf element (t ++ e ∷ [])) b x one p (h.1 p (m.0, o, m.2))
          | inr o ↦
              subst (Contains x) (ap (λ (q : ScopePort). scope_port (owner.Element element) q.number) (contains-single e m.0 o) ∙ sym m.2)
              (subst (λ (l : List ScopePort). Contains l here) (sym new) (Contains-insert_key same_port port-exact b here))
        ],
      )

  -- each insertion adds an output with the number of one of the ports
  pub outputs-next : (outs : List ScopePort) (i : ℕ) (e d : ScopePort) (a b x : List ScopePort) → i < length outs → e ≡ get_or outs i d →
      Gains (IsOutputOf element (take i outs)) a b × HasAll (IsOutputOf element (take i outs)) b → x ≡ insert_key same_port b (scope_port (owner.Element element) e.number) →
      Gains (IsOutputOf element (take (i + 1) outs)) a x × HasAll (IsOutputOf element (take (i + 1) outs)) x
  outputs-next outs i e d a b x l is h new =
      subst (λ (t : List ScopePort). Gains (IsOutputOf element t) a x × HasAll (IsOutputOf element t) x)
      (ap (λ y. take i outs ++ y ∷ []) is ∙ sym (take_more outs i d l)) (outputs-push (take i outs) e a b x h new)

module _ (ends : ℕ → ScopePort → List ScopePort) (body : ℕ → ℕ → Option ℕ) (short : ℕ → ScopePort → List ScopePort) where
  -- a stand-in is an output of the scope only if it is the same port
  stands-same : (s : ℕ) (p q : ScopePort) → StandsIn ends body short s p q → (q.owner ≡ owner.Output) ⊎ (p.owner ≡ owner.Output) → p ≡ q
  stands-same s _ _ (same p) h = refl
  stands-same s _ _ (alike i n k inner e l) (inl h) = absurd (cc h)
  stands-same s _ _ (alike i n k inner e l) (inr h) = absurd (cc h)

  -- the stand-in for an input of an element is an input of the same element that leads to the same
  -- outputs
  pub record StandsBefore (s i : ℕ) (p q : ScopePort) : Type 0 where
    pub outer : ℕ
    pub outer_is : p ≡ scope_port (owner.Element i) outer
    pub number : ℕ
    pub is : q ≡ scope_port (owner.Element i) number
    pub lead : (inner : ℕ) → body s i ≡ Some inner → LeadsThrough ends body inner number (short inner (scope_port owner.Input number)) → LeadsThrough ends body inner outer (short inner (scope_port owner.Input number))

  stands-before : (s : ℕ) (p q : ScopePort) → StandsIn ends body short s p q → (i : ℕ) → (p.owner ≡ owner.Element i) ⊎ (q.owner ≡ owner.Element i) → StandsBefore s i p q
  stands-before s _ _ (same p) i h =
      let e : p.owner ≡ owner.Element i = elim h [ inl o ↦ o | inr o ↦ o ] in
      record { outer = p.number; outer_is = port-of p (owner.Element i) e; number = p.number; is = port-of p (owner.Element i) e; lead = λ inner b l. l }
  stands-before s _ _ (alike j n k inner b l) i h =
      let e : j ≡ i = elim h [ inl o ↦ cc o | inr o ↦ cc o ] in
      record {
        outer = n;
        outer_is = ap (λ x. scope_port (owner.Element x) n) e;
        number = k;
        is = ap (λ x. scope_port (owner.Element x) k) e;
        lead = λ other c w.
            subst (λ (x : ℕ). LeadsThrough ends body x n (short x (scope_port owner.Input k))) (some_same (sym b ∙ ap (body s) e ∙ c)) l;
      }

  -- if all connections from a port lead to outputs of the scope, nothing else is reached
  runs-out : (s : ℕ) (a b : ScopePort) → ((p : ScopePort) → Contains (ends s a) p → p.owner ≡ owner.Output) → LeadsInScope ends body s a b → Contains (ends s a) b
  runs-out s a b all (by_one_connection _ _ _ h) = h
  runs-out s a b all (over _ i n inner m _ _ r e t u) =
      absurd (let x = all (scope_port (owner.Element i) n) (runs-out s a (scope_port (owner.Element i) n) all r) in cc x)

  lands-out : (s : ℕ) (a : ScopePort) → ((p : ScopePort) → Contains (ends s a) p → p.owner ≡ owner.Output) → Lands ends body s a → ⊥
  lands-out s a all (on_element _ i n _ r e) = let x = all (scope_port (owner.Element i) n) (runs-out s a (scope_port (owner.Element i) n) all r) in cc x
  lands-out s a all (inside_compound _ i n inner _ r e l) = let x = all (scope_port (owner.Element i) n) (runs-out s a (scope_port (owner.Element i) n) all r) in cc x

  stood-out : (s n : ℕ) (outs : List ScopePort) → AreStoodFor ends body short s (ends s (scope_port owner.Input n)) outs → ((p : ScopePort) → Contains outs p → p.owner ≡ owner.Output) → LeadsThrough ends body s n outs
  stood-out s n outs stood all = record {
    sound = λ p h. (
      p.number,
      port-of p owner.Output (all p h),
      let r = stood.back p h in
          by_one_connection s (scope_port owner.Input n) p (subst (Contains (ends s (scope_port owner.Input n))) (stands-same s r.0 p r.2 (inl (all p h))) r.1),
    );
    complete = λ m r. (let w = stood.each (scope_port owner.Output m) (runs-out s (scope_port owner.Input n) (scope_port owner.Output m) out r) in
        subst (Contains outs) (sym (stands-same s (scope_port owner.Output m) w.0 w.2 (inr refl))) w.1);
    no_landing = lands-out s (scope_port owner.Input n) out;
  }
    where
      out : (p : ScopePort) → Contains (ends s (scope_port owner.Input n)) p → p.owner ≡ owner.Output
      out p h =
          let r = stood.each p h in
          ap (λ (x : ScopePort). x.owner) (stands-same s p r.0 r.2 (inl (all r.0 r.1))) ∙ all r.0 r.1

  -- what is found for a body whose index is done
  pub leads-through : (done : List ConnectionIndex) (b n : ℕ) (x : ConnectionIndex) (outs : List ScopePort) → AreShortened ends body short done → slice_get done b ≡ Some x → outs ≡ ends_in x.ends.entries (scope_port owner.Input n) →
      ((p : ScopePort) → Contains outs p → p.owner ≡ owner.Output) → (outs ≡ short b (scope_port owner.Input n)) × LeadsThrough ends body b n outs
  leads-through done b n x outs h there is all =
      let within = slice_get_within done b x there in
      let short_is : short b (scope_port owner.Input n) ≡ outs = h.is b (scope_port owner.Input n) within ∙ ap (λ o. index_ends o (scope_port owner.Input n)) there ∙ sym is in (
        sym short_is,
        elim (h.each b within (scope_port owner.Input n)) [
          | inl o ↦ stood-out b n outs (subst (AreStoodFor ends body short b (ends b (scope_port owner.Input n))) short_is o) all
          | inr o ↦
              (let e : o.0 ≡ n = sym (ap (λ (p : ScopePort). p.number) o.1) in
              subst (LeadsThrough ends body b n) short_is (subst (λ (m : ℕ). LeadsThrough ends body b m (short b (scope_port owner.Input n))) e o.2))
        ],
      )

  module _ (s : ℕ) where
    pub passes-none : (seen outs : List ScopePort) → GoesOnBehind ends body short s [] seen seen outs outs
    passes-none seen outs = record {
      seen = gains-none (GoesOver body short s []) seen;
      seen_all = λ p h. absurd (omega (arith, h.there.1));
      outs = gains-none (GoesOut []) outs;
      outs_all = λ p h. absurd (omega (arith, h.0.1));
      through = λ i n h. absurd (omega (arith, h.1));
    }

    goes-over-more : (es fs : List ScopePort) → ((p : ScopePort) → Contains es p → Contains fs p) → (p : ScopePort) → GoesOver body short s es p → GoesOver body short s fs p
    goes-over-more es fs f p h = record {
      element = h.element;
      number = h.number;
      there = f (scope_port (owner.Element h.element) h.number) h.there;
      inner = h.inner;
      is_body = h.is_body;
      behind = h.behind;
      out = h.out;
      is = h.is;
    }

    goes-over-cases : (es fs : List ScopePort) (p : ScopePort) → GoesOver body short s (es ++ fs) p → GoesOver body short s es p ⊎ GoesOver body short s fs p
    goes-over-cases es fs p h =
        elim (Contains-append_cases es fs (scope_port (owner.Element h.element) h.number) h.there) [
          | inl o ↦ inl (record { element = h.element; number = h.number; there = o; inner = h.inner; is_body = h.is_body; behind = h.behind; out = h.out; is = h.is })
          | inr o ↦ inr (record { element = h.element; number = h.number; there = o; inner = h.inner; is_body = h.is_body; behind = h.behind; out = h.out; is = h.is })
        ]

    pub passes-more : (es fs : List ScopePort) (a b d f g h : List ScopePort) → GoesOnBehind ends body short s es a b f g → GoesOnBehind ends body short s fs b d g h → GoesOnBehind ends body short s (es ++ fs) a d f h
    passes-more es fs a b d f g h v w = record {
      seen = gains-trans (GoesOver body short s (es ++ fs)) a b d
          (gains-weaken (GoesOver body short s es) (GoesOver body short s (es ++ fs)) a b (goes-over-more es (es ++ fs) (Contains-append_left es fs)) v.seen)
          (gains-weaken (GoesOver body short s fs) (GoesOver body short s (es ++ fs)) b d (goes-over-more fs (es ++ fs) (Contains-append_right es fs)) w.seen);
      seen_all = λ p m. elim (goes-over-cases es fs p m) [
        | inl o ↦ gains-kept (GoesOver body short s fs) b d w.seen p (v.seen_all p o)
        | inr o ↦ w.seen_all p o
      ];
      outs = gains-trans (GoesOut (es ++ fs)) f g h
          (gains-weaken (GoesOut es) (GoesOut (es ++ fs)) f g (λ p m. (Contains-append_left es fs p m.0, m.1)) v.outs)
          (gains-weaken (GoesOut fs) (GoesOut (es ++ fs)) g h (λ p m. (Contains-append_right es fs p m.0, m.1)) w.outs);
      outs_all = λ p m. elim (Contains-append_cases es fs p m.0) [
        | inl o ↦ gains-kept (GoesOut fs) g h w.outs p (v.outs_all p (o, m.1))
        | inr o ↦ w.outs_all p (o, m.1)
      ];
      through = λ i n m. elim (Contains-append_cases es fs (scope_port (owner.Element i) n) m) [
        | inl o ↦ v.through i n o
        | inr o ↦ w.through i n o
      ];
    }

    pub passes-next : (es : List ScopePort) (i : ℕ) (e d : ScopePort) (a b x f g h : List ScopePort) → i < length es → e ≡ get_or es i d →
        GoesOnBehind ends body short s (take i es) a b f g → GoesOnBehind ends body short s (e ∷ []) b x g h → GoesOnBehind ends body short s (take (i + 1) es) a x f h
    passes-next es i e d a b x f g h l is v w =
        subst (λ (t : List ScopePort). GoesOnBehind ends body short s t a x f h) (ap (λ y. take i es ++ y ∷ []) is ∙ sym (take_more es i d l)) (passes-more (take i es) (e ∷ []) a b x f g h v w)

    pub passes-input : (e : ScopePort) (seen outs : List ScopePort) → e.owner ≡ owner.Input → GoesOnBehind ends body short s (e ∷ []) seen seen outs outs
    passes-input e seen outs is = record {
      seen = gains-none (GoesOver body short s (e ∷ [])) seen;
      seen_all = λ p h. absurd (let x = contains-single e (scope_port (owner.Element h.element) h.number) h.there in cc (x, is));
      outs = gains-none (GoesOut (e ∷ [])) outs;
      outs_all = λ p h. absurd (let x = contains-single e p h.0 in let y = h.1 in cc (x, is, y));
      through = λ i n h. absurd (let x = contains-single e (scope_port (owner.Element i) n) h in cc (x, is));
    }

    pub passes-output : (e : ScopePort) (seen outs new : List ScopePort) → e.owner ≡ owner.Output → new ≡ insert_key same_port outs e → GoesOnBehind ends body short s (e ∷ []) seen seen outs new
    passes-output e seen outs new is more = record {
      seen = gains-none (GoesOver body short s (e ∷ [])) seen;
      seen_all = λ p h. absurd (let x = contains-single e (scope_port (owner.Element h.element) h.number) h.there in cc (x, is));
      outs = gains-insert (GoesOut (e ∷ [])) same_port outs new e more ((0, omega arith, refl), is);
      outs_all = λ p h. subst (Contains new) (contains-single e p h.0) (subst (λ (l : List ScopePort). Contains l e) (sym more) (Contains-insert_key same_port port-exact outs e));
      through = λ i n h. absurd (let x = contains-single e (scope_port (owner.Element i) n) h in cc (x, is));
    }

    pub passes-element : (e : ScopePort) (i inner : ℕ) (behind seen new outs : List ScopePort) → e.owner ≡ owner.Element i → body s i ≡ Some inner → behind ≡ short inner (scope_port owner.Input e.number) →
        LeadsThrough ends body inner e.number behind → Gains (IsOutputOf i behind) seen new → HasAll (IsOutputOf i behind) new → GoesOnBehind ends body short s (e ∷ []) seen new outs outs
    passes-element e i inner behind seen new outs is b short_is lead gains all = record {
      seen = gains-weaken (IsOutputOf i behind) (GoesOver body short s (e ∷ [])) seen new (λ p h. record {
        element = i;
        number = e.number;
        there = subst (Contains (e ∷ [])) (port-of e (owner.Element i) is) (0, omega arith, refl);
        inner = inner;
        is_body = b;
        behind = h.0;
        out = subst (λ (l : List ScopePort). Contains l h.0) short_is h.1;
        is = h.2;
      }) gains;
      seen_all = λ p h. (let x = contains-single e (scope_port (owner.Element h.element) h.number) h.there in
          let element : h.element ≡ i = cc (x, is) in
          let number : h.number ≡ e.number = cc x in
          let in_same : h.inner ≡ inner = some_same (sym h.is_body ∙ ap (body s) element ∙ b) in
          all p (
            h.behind,
            subst (λ (l : List ScopePort). Contains l h.behind) (ap (λ n. short h.inner (scope_port owner.Input n)) number ∙ ap (λ c. short c (scope_port owner.Input e.number)) in_same ∙ sym short_is) h.out,
            h.is ∙ ap (λ c. scope_port (owner.Element c) h.behind.number) element,
          ));
      outs = gains-none (GoesOut (e ∷ [])) outs;
      outs_all = λ p h. absurd (let x = contains-single e p h.0 in let y = h.1 in cc (x, is, y));
      through = λ j n h. (let x = contains-single e (scope_port (owner.Element j) n) h in
          let element : i ≡ j = cc (x, is) in
          let number : e.number ≡ n = cc x in (
            inner,
            ap (body s) (sym element) ∙ b,
            subst (λ (m : ℕ). LeadsThrough ends body inner m (short inner (scope_port owner.Input m))) number (subst (LeadsThrough ends body inner e.number) short_is lead),
          ));
    }

    -- the search has continued after all of these ends, and each of them is a pass-through input or
    -- an output
    pub record IsClosed (seen outs es : List ScopePort) : Type 0 where
      pub seen_all : HasAll (GoesOver body short s es) seen
      pub outs_all : HasAll (GoesOut es) outs
      pub through : AllLeadThrough ends body short s es

    -- one of these ends stands in for the input n of element i, and leads to the same outputs
    pub record Meets (es : List ScopePort) (i n : ℕ) : Type 0 where
      pub number : ℕ
      pub there : Contains es (scope_port (owner.Element i) number)
      pub inner : ℕ
      pub is_body : body s i ≡ Some inner
      pub lead : LeadsThrough ends body inner n (short inner (scope_port owner.Input number))

    meets : (seen outs ps es : List ScopePort) → IsClosed seen outs es → AreStoodFor ends body short s ps es → (i n : ℕ) → Contains ps (scope_port (owner.Element i) n) → Meets es i n
    meets seen outs ps es closed stood i n h =
        let r = stood.each (scope_port (owner.Element i) n) h in
        let b = stands-before s (scope_port (owner.Element i) n) r.0 r.2 i (inl refl) in
        let there : Contains es (scope_port (owner.Element i) b.number) = subst (Contains es) b.is r.1 in
        let t = closed.through i b.number there in
        let e : b.outer ≡ n = sym (ap (λ (p : ScopePort). p.number) b.outer_is) in
        record {
          number = b.number;
          there = there;
          inner = t.0;
          is_body = t.1;
          lead = subst (λ (m : ℕ). LeadsThrough ends body t.0 m (short t.0 (scope_port owner.Input b.number))) e (b.lead t.0 t.1 t.2);
        }

    module _ (here : ScopePort → List ScopePort) (are : AreEndsOf ends body short s here) where
      -- connections lead to b from a port after which the search has continued
      pub record Reaches (seen outs : List ScopePort) (b : ScopePort) : Type 0 where
        pub by : ScopePort
        pub closed : IsClosed seen outs (here by)
        pub joined : Contains (ends s by) b

      module _ (from : ScopePort) where
        -- connections lead to t from each input with the same ends as `from`
        abbrev pub IsReached : ScopePort → Type 0
        IsReached t = (t ≡ from) ⊎ ((n : ℕ) → here (scope_port owner.Input n) ≡ here from → (b : ScopePort) → Contains (ends s t) b → LeadsInScope ends body s (scope_port owner.Input n) b)

        -- connections from input n lead to a port for which q stands in
        pub record IsMet (n : ℕ) (q : ScopePort) : Type 0 where
          pub met : ScopePort
          pub runs : LeadsInScope ends body s (scope_port owner.Input n) met
          pub stands : StandsIn ends body short s met q

        is-met : (t : ScopePort) → IsReached t → (n : ℕ) → here (scope_port owner.Input n) ≡ here from → (q : ScopePort) → Contains (here t) q → IsMet n q
        is-met t (inl e) n like q h =
            let r = (are (scope_port owner.Input n)).back q (subst (λ (l : List ScopePort). Contains l q) (ap here e ∙ sym like) h) in
            record { met = r.0; runs = by_one_connection s (scope_port owner.Input n) r.0 r.1; stands = r.2 }
        is-met t (inr f) n like q h =
            let r = (are t).back q h in record { met = r.0; runs = f n like r.0 r.1; stands = r.2 }

        reached-next : (t : ScopePort) → IsReached t → AllLeadThrough ends body short s (here t) → (p : ScopePort) → GoesOver body short s (here t) p → IsReached p
        reached-next t reached all p h = inr (λ n like b m.
            let q = scope_port (owner.Element h.element) h.number in
            let met = is-met t reached n like q h.there in
            let x = stands-before s met.met q met.stands h.element (inr refl) in
            let number : x.number ≡ h.number = sym (ap (λ (p : ScopePort). p.number) x.is) in
            let a = all h.element h.number h.there in
            let inner : a.0 ≡ h.inner = some_same (sym a.1 ∙ h.is_body) in
            let lead : LeadsThrough ends body h.inner x.number (short h.inner (scope_port owner.Input x.number)) =
            subst (λ (k : ℕ). LeadsThrough ends body h.inner k (short h.inner (scope_port owner.Input k))) (sym number)
            (subst (λ (c : ℕ). LeadsThrough ends body c h.number (short c (scope_port owner.Input h.number))) inner a.2) in
            let out : Contains (short h.inner (scope_port owner.Input x.number)) h.behind =
            subst (λ (k : ℕ). Contains (short h.inner (scope_port owner.Input k)) h.behind) (sym number) h.out in
            let r = (x.lead h.inner h.is_body lead).sound h.behind out in
            let to : p ≡ scope_port (owner.Element h.element) r.0 = h.is ∙ ap (λ (y : ScopePort). scope_port (owner.Element h.element) y.number) r.1 in
            over s h.element x.outer h.inner r.0 (scope_port owner.Input n) b (subst (LeadsInScope ends body s (scope_port owner.Input n)) x.outer_is met.runs) h.is_body
            (subst (LeadsInScope ends body h.inner (scope_port owner.Input x.outer)) r.1 r.2)
            (by_one_connection s (scope_port (owner.Element h.element) r.0) b (subst (λ (y : ScopePort). Contains (ends s y) b) to m)))

        -- p is an output of the scope, and connections lead to it from each input with the same
        -- ends as `from`
        abbrev pub IsSound : ScopePort → Type 0
        IsSound p = (p.owner ≡ owner.Output) × ((n : ℕ) → here (scope_port owner.Input n) ≡ here from → LeadsInScope ends body s (scope_port owner.Input n) p)

        sound-next : (t : ScopePort) → IsReached t → (p : ScopePort) → GoesOut (here t) p → IsSound p
        sound-next t reached p h = (
          h.1,
          λ n like. let met = is-met t reached n like p h.0 in
              subst (LeadsInScope ends body s (scope_port owner.Input n)) (stands-same s met.met p met.stands (inl h.1)) met.runs,
        )

        -- The search from a port has continued at the first `at` of the ports that were seen.
        pub record Goes (seen outs : List ScopePort) (at : ℕ) : Type 0 where
          pub begins : Contains seen from
          pub reached : (t : ScopePort) → Contains seen t → IsReached t
          pub sound : (p : ScopePort) → Contains outs p → IsSound p
          pub closed : (j : ℕ) (t : ScopePort) → j < at → slice_get seen j ≡ Some t → IsClosed seen outs (here t)

        pub goes-first : (seen : List ScopePort) → seen ≡ insert_key same_port [] from → Goes seen [] 0
        goes-first seen e = record {
          begins = subst (λ l. Contains l from) (sym e) (0, omega arith, refl);
          reached = λ t h. inl (sym (contains-single from t (subst (λ l. Contains l t) e h)));
          sound = λ p h. absurd (omega (arith, h.1));
          closed = λ j t l. absurd (omega (arith, l));
        }

        module _ (a b f g : List ScopePort) (at : ℕ) (t : ScopePort) (there : slice_get a at ≡ Some t) (v : GoesOnBehind ends body short s (here t) a b f g) (w : Goes a f at) where
          reached-here : IsReached t
          reached-here = w.reached t (at-contains a at t there)

          closed-more : (es : List ScopePort) → IsClosed a f es → IsClosed b g es
          closed-more es h = record {
            seen_all = λ p m. gains-kept (GoesOver body short s (here t)) a b v.seen p (h.seen_all p m);
            outs_all = λ p m. gains-kept (GoesOut (here t)) f g v.outs p (h.outs_all p m);
            through = h.through;
          }

          closed-here : IsClosed b g (here t)
          closed-here = record { seen_all = v.seen_all; outs_all = v.outs_all; through = v.through }

          -- a port before the next one is an earlier port, or this one
          earlier : (j : ℕ) (u : ScopePort) → j < at + 1 → slice_get b j ≡ Some u → ((j < at) × (slice_get a j ≡ Some u)) ⊎ (u ≡ t)
          earlier j u l h =
              let within = slice_get_within a at t there in
              elim (cases_order j at) [
                | inl e ↦ inr (some_same (sym h ∙ gains-at (GoesOver body short s (here t)) a b v.seen j (omega (arith, e, within)) ∙ ap (slice_get a) e ∙ there))
                | inr (inl m) ↦ inl (m, sym (gains-at (GoesOver body short s (here t)) a b v.seen j (omega (arith, m, within))) ∙ h)
                | inr (inr m) ↦ absurd (omega (arith, l, m))
              ]

          pub goes-next : Goes b g (at + 1)
          goes-next = record {
            begins = gains-kept (GoesOver body short s (here t)) a b v.seen from w.begins;
            reached = λ u h. elim (gains-cases (GoesOver body short s (here t)) a b v.seen u h) [
              | inl o ↦ w.reached u o
              | inr o ↦ reached-next t reached-here v.through u o
            ];
            sound = λ p h. elim (gains-cases (GoesOut (here t)) f g v.outs p h) [
              | inl o ↦ w.sound p o
              | inr o ↦ sound-next t reached-here p o
            ];
            closed = λ j u l h. elim (earlier j u l h) [
              | inl o ↦ closed-more (here u) (w.closed j u o.0 o.1)
              | inr e ↦ subst (λ (x : ScopePort). IsClosed b g (here x)) (sym e) closed-here
            ];
          }

  -- what connections lead to, from a port after which the search has continued
  runs-reach : (s : ℕ) (here : ScopePort → List ScopePort) (are : AreEndsOf ends body short s here) (seen outs : List ScopePort) → ((t : ScopePort) → Contains seen t → IsClosed s seen outs (here t)) →
      (a b : ScopePort) → IsClosed s seen outs (here a) → LeadsInScope ends body s a b → Reaches s here are seen outs b
  runs-reach s here are seen outs all a b h (by_one_connection _ _ _ m) = record { by = a; closed = h; joined = m }
  runs-reach s here are seen outs all a b h (over _ i n inner m _ _ r e t u) =
      let x = runs-reach s here are seen outs all a (scope_port (owner.Element i) n) h r in
      let y = meets s seen outs (ends s x.by) (here x.by) x.closed (are x.by) i n x.joined in
      let c : y.inner ≡ inner = some_same (sym y.is_body ∙ e) in
      let out : Contains (short y.inner (scope_port owner.Input y.number)) (scope_port owner.Output m) =
      y.lead.complete m (subst (λ (k : ℕ). LeadsInScope ends body k (scope_port owner.Input n) (scope_port owner.Output m)) (sym c) t) in
      let on : Contains seen (scope_port (owner.Element i) m) =
      x.closed.seen_all (scope_port (owner.Element i) m) (record { element = i; number = y.number; there = y.there; inner = y.inner; is_body = y.is_body; behind = scope_port owner.Output m; out = out; is = refl }) in
      runs-reach s here are seen outs all (scope_port (owner.Element i) m) b (all (scope_port (owner.Element i) m) on) u

  lands-never : (s : ℕ) (here : ScopePort → List ScopePort) (are : AreEndsOf ends body short s here) (seen outs : List ScopePort) → ((t : ScopePort) → Contains seen t → IsClosed s seen outs (here t)) →
      (a : ScopePort) → IsClosed s seen outs (here a) → Lands ends body s a → ⊥
  lands-never s here are seen outs all a h (on_element _ i n _ r e) =
      let x = runs-reach s here are seen outs all a (scope_port (owner.Element i) n) h r in
      let y = meets s seen outs (ends s x.by) (here x.by) x.closed (are x.by) i n x.joined in
      let z = sym e ∙ y.is_body in cc z
  lands-never s here are seen outs all a h (inside_compound _ i n inner _ r e l) =
      let x = runs-reach s here are seen outs all a (scope_port (owner.Element i) n) h r in
      let y = meets s seen outs (ends s x.by) (here x.by) x.closed (are x.by) i n x.joined in
      let c : y.inner ≡ inner = some_same (sym y.is_body ∙ e) in
      y.lead.no_landing (subst (λ (k : ℕ). Lands ends body k (scope_port owner.Input n)) (sym c) l)

  -- at the end, the search has continued at all ports that were seen
  pub goes-all : (s : ℕ) (here : ScopePort → List ScopePort) (are : AreEndsOf ends body short s here) (from : ScopePort) (seen outs : List ScopePort) (at : ℕ) → Goes s here are from seen outs at → length seen ≤ at →
      LeadAlike ends body s here from outs
  goes-all s here are from seen outs at w done n like =
      record {
        sound = λ p h. (let r = w.sound p h in (p.number, port-of p owner.Output r.0, r.1 n like));
        complete = λ m r.
            (let x = runs-reach s here are seen outs all (scope_port owner.Input n) (scope_port owner.Output m) first r in
            let y = (are x.by).each (scope_port owner.Output m) x.joined in
            x.closed.outs_all (scope_port owner.Output m) (subst (Contains (here x.by)) (sym (stands-same s (scope_port owner.Output m) y.0 y.2 (inr refl))) y.1, refl));
        no_landing = lands-never s here are seen outs all (scope_port owner.Input n) first;
      }
    where
      all : (t : ScopePort) → Contains seen t → IsClosed s seen outs (here t)
      all t h =
          let p = contains-at seen t h in
          let l = slice_get_within seen p.0 t p.1 in w.closed p.0 t (omega (arith, l, done)) p.1

      first : IsClosed s seen outs (here (scope_port owner.Input n))
      first = subst (IsClosed s seen outs) (sym like) (all from w.begins)
