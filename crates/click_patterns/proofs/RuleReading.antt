-- Rules that texts spell, read one by one, and their flat form.
use Rattle.std.proofs.Common.{◌≡◌, ℕ, zero, suc, ◌+◌, ◌<◌, ◌≤◌, List, [], ◌∷◌, ◌++◌, length, get_or, drop, map, Bool, refl, sym, ap, ◌∙◌, subst, arith, append_assoc}
use Rattle.std.proofs.lemmas.List.{append-nil, drop_more, drop_all}
use Rattle.click_filter.specs.declared.rule.Action.{Action}
use Rattle.click_filter.specs.declared.rule.Action.TheVariants as action
use Rattle.click_filter.specs.declared.rule.Rule.{Rule}
use Rattle.click_filter.specs.declared.pattern.Node.{Node}
use Rattle.click_filter.specs.declared.pattern.Node.TheVariants as node
use Rattle.click_filter.specs.Trees.{Tree, leaf, negated, conjunction, disjunction, Parts, first, further, truth, all_true, any_true, flat, flat_all, flat_any}
use Rattle.click_filter.specs.Rules.{Ruling, decision, IsRule, AreRules}
use Rattle.click_patterns.specs.declared.rules.FlatRule.{FlatRule}
use Rattle.click_patterns.specs.declared.rules.RuleForm.{RuleForm}
use Rattle.click_patterns.specs.declared.rules.RuleForm.TheVariants as form
use Rattle.click_patterns.specs.RuleLists.{IsSpelled, AreSpelledFrom, AreSpelled, flat_rule, joined_by, values_of, flat_truth, decided}
use Rattle.click_patterns.specs.kept.Flat.{flat_of}
use Rattle.click_patterns.proofs.OneTree.{one_tree}

-- ---- the truth of a flat form is that of its tree

values-append : (ms ns : List Node) (values : List Bool) (b : List ℕ) → values_of (ms ++ ns) values b ≡ values_of ns (values_of ms values b) b
values-append [] ns values b = refl
values-append (m ∷ ms) ns values b = values-append ms ns (joined_by m values b) b

mutual
  one_value : (t : Tree) (values : List Bool) (b : List ℕ) → values_of (flat t) values b ≡ truth t b ∷ values
  one_value (leaf x) values b = refl
  one_value (negated t) values b = values-append (flat t) (node.Not ∷ []) values b ∙ ap (λ (v : List Bool). joined_by node.Not v b) (one_value t values b)
  one_value (conjunction ps) values b = value_of_all ps values b
  one_value (disjunction ps) values b = value_of_any ps values b

  value_of_all : (ps : Parts) (values : List Bool) (b : List ℕ) → values_of (flat_all ps) values b ≡ all_true ps b ∷ values
  value_of_all (first t) values b = one_value t values b
  value_of_all (further ps t) values b =
      values-append (flat_all ps ++ flat t) (node.And ∷ []) values b
      ∙ ap (λ (v : List Bool). joined_by node.And v b)
      (values-append (flat_all ps) (flat t) values b ∙ ap (λ (v : List Bool). values_of (flat t) v b) (value_of_all ps values b) ∙ one_value t (all_true ps b ∷ values) b)

  value_of_any : (ps : Parts) (values : List Bool) (b : List ℕ) → values_of (flat_any ps) values b ≡ any_true ps b ∷ values
  value_of_any (first t) values b = one_value t values b
  value_of_any (further ps t) values b =
      values-append (flat_any ps ++ flat t) (node.Or ∷ []) values b
      ∙ ap (λ (v : List Bool). joined_by node.Or v b)
      (values-append (flat_any ps) (flat t) values b ∙ ap (λ (v : List Bool). values_of (flat t) v b) (value_of_any ps values b) ∙ one_value t (any_true ps b ∷ values) b)

pub same_truth : (t : Tree) (b : List ℕ) → flat_truth (flat t) b ≡ truth t b
same_truth t b = let e = one_value t [] b in rw e refl

pub same_decision : (rs : List Ruling) (b : List ℕ) → decided (map flat_rule rs) b ≡ decision rs b
same_decision [] b = refl
same_decision (r ∷ rs) b = rw (same_truth r.1 b, same_decision rs b) refl

-- ---- rules of the code

pub flat_copies_are : (rules : List Rule) (rs : List Ruling) → AreRules rules rs → map flat_of rules ≡ map flat_rule rs
flat_copies_are [] [] h = refl
flat_copies_are [] (r ∷ rs) h = absurd h
flat_copies_are (rule ∷ rules) [] h = absurd h
flat_copies_are (rule ∷ rules) (r ∷ rs) (s, h) =
    let a = s.0 in
    let n = s.1 in
    let rest = flat_copies_are rules rs h in
    cc

rules-append : (rules : List Rule) (rs : List Ruling) (rule : Rule) (r : Ruling) → AreRules rules rs → IsRule rule r → AreRules (rules ++ rule ∷ []) (rs ++ r ∷ [])
rules-append [] [] rule r h s = (s, tt)
rules-append [] (q ∷ rs) rule r h s = absurd h
rules-append (q ∷ rules) [] rule r h s = absurd h
rules-append (q ∷ rules) (p ∷ rs) rule r h s = (h.0, rules-append rules rs rule r h.1 s)

-- ---- texts, read one by one

-- the invariant of the loop: the texts before index `at` spell the rules
pub record Reading (f : RuleForm) (texts : List (List ℕ)) (at : ℕ) (rules : List Rule) : Type 0 where
  pub rs : List Ruling
  pub are : AreRules rules rs
  pub within : at ≤ length texts
  pub goes_on : (more : List Ruling) → AreSpelledFrom f at (drop at texts) more → AreSpelled f texts (rs ++ more)

pub reading_none : (f : RuleForm) (texts : List (List ℕ)) → Reading f texts 0 []
reading_none f texts = record { rs = []; are = tt; within = omega arith; goes_on = λ more h. h }

pub reading_more : (f : RuleForm) (texts : List (List ℕ)) (at : ℕ) (rules : List Rule) (rule : Rule) (t : Tree) (d : List ℕ) → at < length texts
    → IsSpelled f at (get_or texts at d) (rule.action, t) → rule.pattern.nodes.items ≡ flat t → Reading f texts at rules → Reading f texts (at + 1) (rules ++ rule ∷ [])
reading_more f texts at rules rule t d l s e c = record {
  rs = c.rs ++ (rule.action, t) ∷ [];
  are = rules-append rules c.rs rule (rule.action, t) c.are (refl, e);
  within = omega arith;
  goes_on = λ more h.
      let g : AreSpelledFrom f at (drop at texts) ((rule.action, t) ∷ more) = rw (drop_more texts at d l) (s, h) in
      rw (append_assoc c.rs ((rule.action, t) ∷ []) more) (c.goes_on ((rule.action, t) ∷ more) g);
}

pub reading_all : (f : RuleForm) (texts : List (List ℕ)) (at : ℕ) (rules : List Rule) → length texts ≤ at → Reading f texts at rules
    → (rs : List Ruling) × AreSpelled f texts rs × AreRules rules rs
reading_all f texts at rules l c =
    let g : AreSpelledFrom f at (drop at texts) [] = rw (drop_all at texts l) tt in
    let h : AreSpelled f texts (c.rs ++ []) = c.goes_on [] g in
    (c.rs, rw append-nil at h, c.are)

-- each text spells a rule
spelled_at : (f : RuleForm) (k at : ℕ) (texts : List (List ℕ)) (d : List ℕ) (rs : List Ruling) → at < length texts → AreSpelledFrom f k texts rs
    → (r : Ruling) × IsSpelled f (k + at) (get_or texts at d) r
spelled_at f k at [] d rs l h = absurd (omega (arith, l))
spelled_at f k at (text ∷ texts) d [] l h = absurd h
spelled_at f k zero (text ∷ texts) d (r ∷ rs) l h = let e : k ≡ k + 0 = omega arith in (r, subst (λ (x : ℕ). IsSpelled f x text r) e h.0)
spelled_at f k (suc at) (text ∷ texts) d (r ∷ rs) l h =
    let q = spelled_at f (k + 1) at texts d rs (omega (arith, l)) h.1 in
    let e : k + 1 + at ≡ k + suc at = omega arith in
    (q.0, subst (λ (x : ℕ). IsSpelled f x (get_or texts at d) q.0) e q.1)

pub none_spelled : (f : RuleForm) (texts : List (List ℕ)) (at : ℕ) (d : List ℕ) → at < length texts → ((r : Ruling) → IsSpelled f at (get_or texts at d) r → ⊥) → (rs : List Ruling) → AreSpelled f texts rs → ⊥
none_spelled f texts at d l never rs h = let q = spelled_at f 0 at texts d rs l h in
    let e : 0 + at ≡ at = omega arith in
    never q.0 (subst (λ (x : ℕ). IsSpelled f x (get_or texts at d) q.0) e q.1)

-- ---- texts spell at most one list of rules

one_spelled : (f : RuleForm) (k : ℕ) (text : List ℕ) (r s : Ruling) → IsSpelled f k text r → IsSpelled f k text s → r ≡ s
one_spelled form.WithAction k text (a, t) (b, u) (e, p) (g, q) = let h = one_tree _ t u p q in cc
one_spelled form.PatternAlone k text (a, t) (b, u) (e, p) (g, q) = let h = one_tree _ t u p q in cc

one_list : (f : RuleForm) (k : ℕ) (texts : List (List ℕ)) (rs ss : List Ruling) → AreSpelledFrom f k texts rs → AreSpelledFrom f k texts ss → rs ≡ ss
one_list f k [] [] [] g h = refl
one_list f k [] [] (s ∷ ss) g h = absurd h
one_list f k [] (r ∷ rs) ss g h = absurd g
one_list f k (text ∷ texts) [] ss g h = absurd g
one_list f k (text ∷ texts) (r ∷ rs) [] g h = absurd h
one_list f k (text ∷ texts) (r ∷ rs) (s ∷ ss) g h =
    let e = one_spelled f k text r s g.0 h.0 in
    let q = one_list f (k + 1) texts rs ss g.1 h.1 in
    cc

pub one_rule_list : (f : RuleForm) (texts : List (List ℕ)) (rs ss : List Ruling) → AreSpelled f texts rs → AreSpelled f texts ss → rs ≡ ss
one_rule_list f texts rs ss g h = one_list f 0 texts rs ss g h
