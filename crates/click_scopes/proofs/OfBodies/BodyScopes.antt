-- Each body of a nested configuration is in some scope.
use Rattle.std.proofs.Common.{◌≡◌, inl, inr, ℕ, suc, ◌+◌, ◌<◌, ◌≤◌, List, [], ◌∷◌, ◌++◌, reverse, length, refl, ap, sym, subst, arith, Contains}
use Rattle.std.specs.List.{slice_get}
use Rattle.std.proofs.lemmas.Bool.{cases_order}
use Rattle.std.proofs.lemmas.List.Elements.{Contains-append_cases}
use Rattle.click_text.specs.declared.syntax.Statement.{Statement}
use Rattle.click_text.specs.declared.syntax.Config.{Config}
use Rattle.click_scopes.specs.Scopes.{Scope, whole, inside, bodies_in, body_statements, statements_of, Stands, at_top, nested}
use Rattle.click_scopes.specs.kept.Nesting.{direct, Nests, no_bodies, next_body, IsNested}

-- The statement that contains the body.
pub record Holds (ss : List Statement) (b : ℕ) : Type 0 where
  pub before : List Statement
  pub after : List Statement
  pub statement : Statement
  pub splits : ss ≡ before ++ statement ∷ after
  pub there : Contains (bodies_in statement) b

pub holds : (ss : List Statement) (b : ℕ) → Contains (direct ss) b → Holds ss b
holds [] b h = absurd (omega (arith, h.1))
holds (s ∷ ss) b h =
    elim (Contains-append_cases (bodies_in s) (direct ss) b h) [
      | inl i ↦ record { before = []; after = ss; statement = s; splits = refl; there = i }
      | inr i ↦
          (let r = holds ss b i in
          record { before = s ∷ r.before; after = r.after; statement = r.statement; splits = ap (λ x. s ∷ x) r.splits; there = r.there })
    ]

module _ (c : Config) where
  -- The scope occurs in the configuration.
  pub record IsPlaced (s : Scope) : Type 0 where
    pub visible : List Statement
    pub enclosing : List Scope
    pub stands : Stands c s visible enclosing

  placed-inside : (s : Scope) (b : ℕ) → IsPlaced s → Contains (direct (statements_of c s)) b → IsPlaced (inside b)
  placed-inside s b p i =
      let h = holds (statements_of c s) b i in
      record {
        visible = reverse h.before ++ p.visible;
        enclosing = s ∷ p.enclosing;
        stands = nested s p.visible p.enclosing h.before h.after h.statement b p.stands h.splits h.there;
      }

  placed-among : (a : ℕ) (rs : List ℕ) (z : ℕ) → Nests c.bodies a rs z → ((b : ℕ) → Contains rs b → IsPlaced (inside b)) → (p : ℕ) → a ≤ p → p < z → IsPlaced (inside p)
  placed-among a rs z (no_bodies at) f p l m = absurd (omega (arith, l, m))
  placed-among a rs z (next_body from b to bs n h k) f p l m =
      let here : IsPlaced (inside b) = f b (0, omega arith, refl) in
      elim (cases_order p b) [
        | inl q ↦ subst (λ x. IsPlaced (inside x)) (sym q) here
        | inr (inl q) ↦ placed-among from (direct (body_statements (slice_get c.bodies b))) b h (λ x i. placed-inside (inside b) x here i) p l q
        | inr (inr q) ↦ placed-among (b + 1) bs to k (λ x i. f x (suc i.0, omega (arith, i.1), i.2)) p (omega (arith, q)) m
      ]

  pub all-placed : IsNested c → (p : ℕ) → p < length c.bodies → IsPlaced (inside p)
  all-placed n p l =
      placed-among 0 (direct c.statements) (length c.bodies) n (λ b i. placed-inside whole b (record { visible = []; enclosing = []; stands = at_top }) i) p (omega arith) l
