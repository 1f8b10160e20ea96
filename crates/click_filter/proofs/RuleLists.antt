-- Lists of rules: their decisions, and rules of the code one by one from the last to the first.
use Rattle.std.proofs.Common.{◌≡◌, ℕ, ◌+◌, ◌<◌, List, [], ◌∷◌, ◌++◌, Bool, true, false, cond, refl, ◌∙◌, ap, subst, arith, append_assoc}
use Rattle.click_filter.specs.declared.rule.Action.{Action}
use Rattle.click_filter.specs.declared.rule.Action.TheVariants as action
use Rattle.click_filter.specs.declared.rule.Rule.{Rule}
use Rattle.click_filter.specs.Trees.{Tree, truth, tests, flat}
use Rattle.click_filter.specs.Rules.{Ruling, rule, always, decision, all_tests, IsRule, AreRules}

-- ---- laws

pub after_always : (front : List Ruling) (a : Action) (t : Tree) (rest : List Ruling) (b : List ℕ) → truth t b ≡ true
    → decision (front ++ rule a t ∷ rest) b ≡ decision (front ++ rule a t ∷ []) b
after_always [] a t rest b h = rw h refl
after_always (r ∷ front) a t rest b h = ap (λ (x : Action). cond (truth r.1 b) r.0 x) (after_always front a t rest b h)

swapped : (c d : Bool) (a x : Action) → cond c a (cond d a x) ≡ cond d a (cond c a x)
swapped true true a x = refl
swapped true false a x = refl
swapped false true a x = refl
swapped false false a x = refl

pub exchanged : (front : List Ruling) (a : Action) (s t : Tree) (rest : List Ruling) (b : List ℕ)
    → decision (front ++ rule a s ∷ rule a t ∷ rest) b ≡ decision (front ++ rule a t ∷ rule a s ∷ rest) b
exchanged [] a s t rest b = swapped (truth s b) (truth t b) a (decision rest b)
exchanged (r ∷ front) a s t rest b = ap (λ (x : Action). cond (truth r.1 b) r.0 x) (exchanged front a s t rest b)

pub denied_last : (rs : List Ruling) (b : List ℕ) → decision (rs ++ rule action.Drop always ∷ []) b ≡ decision rs b
denied_last [] b = refl
denied_last (r ∷ rs) b = ap (λ (x : Action). cond (truth r.1 b) r.0 x) (denied_last rs b)

-- ---- rules of the code

pub all_tests-append : (rs ss : List Ruling) → all_tests (rs ++ ss) ≡ all_tests rs + all_tests ss
all_tests-append [] ss = omega arith
all_tests-append (r ∷ rs) ss = let h = all_tests-append rs ss in omega arith

-- the last rule, and those before it
pub record Last (rules : List Rule) (last : Rule) (rs : List Ruling) : Type 0 where
  pub front : List Ruling
  pub ruling : Ruling
  pub whole : rs ≡ front ++ ruling ∷ []
  pub before : AreRules rules front
  pub same : IsRule last ruling

with_front : (first : Rule) (rules : List Rule) (last : Rule) (r : Ruling) (rs : List Ruling) → IsRule first r → Last rules last rs → Last (first ∷ rules) last (r ∷ rs)
with_front first rules last r rs h l = record { front = r ∷ l.front; ruling = l.ruling; whole = ap (λ (x : List Ruling). r ∷ x) l.whole; before = (h, l.before); same = l.same }

pub last_rule : (rules : List Rule) (last : Rule) (rs : List Ruling) → AreRules (rules ++ last ∷ []) rs → Last rules last rs
last_rule [] last [] h = absurd h
last_rule [] last (r ∷ []) h = record { front = []; ruling = r; whole = refl; before = tt; same = h.0 }
last_rule [] last (r ∷ s ∷ rs) h = absurd h.1
last_rule (first ∷ rules) last [] h = absurd h
last_rule (first ∷ rules) last (r ∷ rs) h = with_front first rules last r rs h.0 (last_rule rules last rs h.1)

-- the rules that are left to be put before the others, of a list of rules
pub record Split (rules : List Rule) (rs : List Ruling) (decides : List ℕ → Action) (size : ℕ) : Type 0 where
  pub front : List Ruling
  pub back : List Ruling
  pub whole : rs ≡ front ++ back
  pub left : AreRules rules front
  pub same : (b : List ℕ) → decides b ≡ decision back b
  pub count : size ≡ all_tests back

module _ (rules items : List Rule) (last : Rule) (rs : List Ruling) (d : List ℕ → Action) (n : ℕ) (s : Split items rs d n) (e : items ≡ rules ++ last ∷ []) where
  parted : Last rules last s.front
  parted = last_rule rules last s.front (subst (λ (x : List Rule). AreRules x s.front) e s.left)

  joined_again : rs ≡ parted.front ++ parted.ruling ∷ s.back
  joined_again = s.whole ∙ ap (λ (x : List Ruling). x ++ s.back) parted.whole ∙ append_assoc parted.front (parted.ruling ∷ []) s.back

  -- the last rule that is left is put before the others
  pub extended : (d' : List ℕ → Action) (n' : ℕ) → ((t : Tree) → last.pattern.nodes.items ≡ flat t → (b : List ℕ) → d' b ≡ cond (truth t b) last.action (d b))
      → ((t : Tree) → last.pattern.nodes.items ≡ flat t → n' ≡ tests t + n) → Split rules rs d' n'
  extended d' n' f g =
      let r = parted.ruling in
      record {
        front = parted.front;
        back = r ∷ s.back;
        whole = joined_again;
        left = parted.before;
        same = λ b. f r.1 parted.same.1 b ∙ ap (λ (a : Action). cond (truth r.1 b) a (d b)) parted.same.0 ∙ ap (λ (x : Action). cond (truth r.1 b) r.0 x) (s.same b);
        count = g r.1 parted.same.1 ∙ ap (λ (m : ℕ). tests r.1 + m) s.count;
      }

  -- with the last rule that is left there are too many tests
  pub too_many : ((t : Tree) → last.pattern.nodes.items ≡ flat t → 4096 < tests t + n) → 4096 < all_tests rs
  too_many f =
      let r = parted.ruling in
      let h = f r.1 parted.same.1 in
      let k = s.count in
      let e' = ap all_tests joined_again in
      let a = all_tests-append parted.front (r ∷ s.back) in
      omega arith
