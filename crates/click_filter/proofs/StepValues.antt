-- The values of targets in lists of steps.
use Rattle.std.proofs.Common.{◌≡◌, ℕ, suc, ◌+◌, ◌-◌, ◌<◌, List, [], ◌∷◌, ◌++◌, length, reverse, get_or, Bool, true, false, ◌&&◌, ◌||◌, not, Result, Ok, Err, IfOk, IfErr, ◌⊎◌, cond, nat_eq, nat_lt, inl, inr, refl, sym, ◌∙◌, ap, subst, arith}
use Rattle.std.proofs.lemmas.List.{reverse-append, get_or-reverse, length-reverse}
use Rattle.std.proofs.lemmas.Bool.{cases_lt}
use Rattle.std.proofs.lemmas.Bool.Decides.{nat_tests}
use Rattle.click_filter.specs.declared.step.Step.{Step}
use Rattle.click_filter.specs.Tests.{holds}
use Rattle.click_filter.specs.declared.rule.Action.{Action}
use Rattle.click_filter.specs.kept.Steps.{next, value, forward, action_of}

different : (a b : ℕ) → a < b → nat_eq a b ≡ false
different a b h = grind (arith, nat_tests)

same : (a : ℕ) → nat_eq a a ≡ true
same a = grind (arith, nat_tests)

skips : (s : Step) (older : List Step) (at : ℕ) (b : List ℕ) → at < length older + 257 → value (s ∷ older) at b ≡ value older at b
skips s older at b h = let d = different at (length older + 257) h in rw d refl

takes : (s : Step) (older : List Step) (b : List ℕ) → value (s ∷ older) (length older + 257) b ≡ value older (next s b) b
takes s older b = let d = same (length older + 257) in rw d refl

below : (a b : ℕ) → nat_lt a b ≡ true → a < b
below a b h = grind (arith, nat_tests)

both : (x y : Bool) → (x && y) ≡ true → (x ≡ true) × (y ≡ true)
both true y e = (refl, e)
both false y e = cc

either : (c : Bool) (a b n : ℕ) → a < n → b < n → cond c a b < n
either true a b n h k = h
either false a b n h k = k

pub record Sound (s : Step) (older : List Step) : Type 0 where
  pub at_yes : s.yes < length older + 257
  pub at_no : s.no < length older + 257
  pub rest : forward older ≡ true

sound : (s : Step) (older : List Step) → forward (s ∷ older) ≡ true → Sound s older
sound s older h =
    let p = both (nat_lt s.yes (length older + 257) && nat_lt s.no (length older + 257)) (forward older) h in
    let q = both (nat_lt s.yes (length older + 257)) (nat_lt s.no (length older + 257)) p.0 in
    record { at_yes = below s.yes (length older + 257) q.0; at_no = below s.no (length older + 257) q.1; rest = p.1 }

next_below : (s : Step) (b : List ℕ) (n : ℕ) → s.yes < n → s.no < n → next s b < n
next_below s b n h k = either (holds s.test b) s.yes s.no n h k

-- the step at an index leads to an older target, with the same value
pub record Leads (ys : List Step) (k : ℕ) (s : Step) (b : List ℕ) : Type 0 where
  pub value_next : value ys (k + 257) b ≡ value ys (next s b) b
  pub older : next s b < k + 257

leads_first : (y : Step) (older : List Step) (b : List ℕ) → Sound y older → Leads (y ∷ older) (length older) y b
leads_first y older b h =
    let n = next_below y b (length older + 257) h.at_yes h.at_no in
    record { value_next = takes y older b ∙ sym (skips y older (next y b) b n); older = n }

leads_more : (y s : Step) (older : List Step) (k : ℕ) (b : List ℕ) → k < length older → Leads older k s b → Leads (y ∷ older) k s b
leads_more y s older k b h r =
    let near : k + 257 < length older + 257 = omega arith in
    let n = r.older in
    let nearer : next s b < length older + 257 = omega arith in
    record { value_next = skips y older (k + 257) b near ∙ r.value_next ∙ sym (skips y older (next s b) b nearer); older = r.older }

leads_here : (y s : Step) (older : List Step) (k : ℕ) (b : List ℕ) → k ≡ length older → s ≡ y → Sound y older → Leads (y ∷ older) k s b
leads_here y s older k b h e f = subst (λ (j : ℕ). Leads (y ∷ older) j s b) (sym h) (subst (λ (x : Step). Leads (y ∷ older) (length older) x b) (sym e) (leads_first y older b f))

leads_in : (ys : List Step) (k : ℕ) (s : Step) (b : List ℕ) → k < length ys → s ≡ get_or ys (length ys - 1 - k) s → forward ys ≡ true → Leads ys k s b
leads_in [] k s b h e f = absurd (omega arith)
leads_in (y ∷ older) k s b h e f =
    elim (cases_lt k (length older)) [
      | inl m ↦
          let place : length (y ∷ older) - 1 - k ≡ suc (length older - 1 - k) = omega arith in
          let e' : s ≡ get_or older (length older - 1 - k) s = e ∙ ap (λ (i : ℕ). get_or (y ∷ older) i s) place in
          leads_more y s older k b m (leads_in older k s b m e' (sound y older f).rest)
      | inr m ↦
          let last : k ≡ length older = omega arith in
          let place : length (y ∷ older) - 1 - k ≡ 0 = omega arith in
          let e' : s ≡ y = e ∙ ap (λ (i : ℕ). get_or (y ∷ older) i s) place in
          leads_here y s older k b last e' (sound y older f)
    ]

-- the step at an index of the steps, the oldest first
pub leads : (xs : List Step) (k : ℕ) (s : Step) (b : List ℕ) → k < length xs → s ≡ get_or xs k s → forward (reverse xs) ≡ true → Leads (reverse xs) k s b
leads xs k s b h e f =
    let len = length-reverse xs in
    let inside : k < length (reverse xs) = omega arith in
    let place : length xs - 1 - (length (reverse xs) - 1 - k) ≡ k = omega arith in
    let within : length (reverse xs) - 1 - k < length xs = omega arith in
    let read : s ≡ get_or (reverse xs) (length (reverse xs) - 1 - k) s =
    e ∙ sym (get_or-reverse xs (length (reverse xs) - 1 - k) s within ∙ ap (λ (i : ℕ). get_or xs i s) place) in
    leads_in (reverse xs) k s b inside read f

-- the targets of the step at an index are older
pub record Older (k : ℕ) (s : Step) : Type 0 where
  pub at_yes : s.yes < k + 257
  pub at_no : s.no < k + 257

older_in : (ys : List Step) (k : ℕ) (s : Step) → k < length ys → s ≡ get_or ys (length ys - 1 - k) s → forward ys ≡ true → Older k s
older_in [] k s h e f = absurd (omega arith)
older_in (y ∷ older) k s h e f =
    elim (cases_lt k (length older)) [
      | inl m ↦
          let place : length (y ∷ older) - 1 - k ≡ suc (length older - 1 - k) = omega arith in
          let e' : s ≡ get_or older (length older - 1 - k) s = e ∙ ap (λ (i : ℕ). get_or (y ∷ older) i s) place in
          older_in older k s m e' (sound y older f).rest
      | inr m ↦
          let last : k ≡ length older = omega arith in
          let place : length (y ∷ older) - 1 - k ≡ 0 = omega arith in
          let e' : s ≡ y = e ∙ ap (λ (i : ℕ). get_or (y ∷ older) i s) place in
          let q = sound y older f in
          subst (λ (j : ℕ). Older j s) (sym last) (subst (λ (x : Step). Older (length older) x) (sym e') (record { at_yes = q.at_yes; at_no = q.at_no }))
    ]

pub older_targets : (xs : List Step) (k : ℕ) (s : Step) → k < length xs → s ≡ get_or xs k s → forward (reverse xs) ≡ true → Older k s
older_targets xs k s h e f =
    let len = length-reverse xs in
    let inside : k < length (reverse xs) = omega arith in
    let place : length xs - 1 - (length (reverse xs) - 1 - k) ≡ k = omega arith in
    let within : length (reverse xs) - 1 - k < length xs = omega arith in
    let read : s ≡ get_or (reverse xs) (length (reverse xs) - 1 - k) s =
    e ∙ sym (get_or-reverse xs (length (reverse xs) - 1 - k) s within ∙ ap (λ (i : ℕ). get_or xs i s) place) in
    older_in (reverse xs) k s inside read f

-- the step at a target makes this test, which has a known outcome
pub past_test : (xs : List Step) (k at : ℕ) (s : Step) (outcome : Bool) (b : List ℕ) → at ≡ k + 257 → k < length xs → s ≡ get_or xs k s → forward (reverse xs) ≡ true → holds s.test b ≡ outcome
    → value (reverse xs) (cond outcome s.yes s.no) b ≡ value (reverse xs) at b
past_test xs k at s outcome b a h e f o =
    let l = leads xs k s b h e f in
    ap (λ (c : Bool). value (reverse xs) (cond c s.yes s.no) b) (sym o) ∙ sym l.value_next ∙ ap (λ (n : ℕ). value (reverse xs) n b) (sym a)

-- a target that is no step stands for itself
pub value_action : (ys : List Step) (at : ℕ) (b : List ℕ) → at < 257 → value ys at b ≡ at
value_action [] at b h = refl
value_action (y ∷ older) at b h = let near : at < length older + 257 = omega arith in skips y older at b near ∙ value_action older at b h

-- ---- one step more

reversed : (xs : List Step) (s : Step) → reverse (xs ++ s ∷ []) ≡ s ∷ reverse xs
reversed xs s = reverse-append xs (s ∷ [])

pub pushed_value : (xs ys : List Step) (s : Step) (at : ℕ) (b : List ℕ) → ys ≡ xs ++ s ∷ [] → at ≡ length xs + 257 → value (reverse ys) at b ≡ value (reverse xs) (next s b) b
pushed_value xs ys s at b e h =
    let r : reverse ys ≡ s ∷ reverse xs = ap reverse e ∙ reversed xs s in
    let k : at ≡ length (reverse xs) + 257 = h ∙ ap (λ (n : ℕ). n + 257) (sym (length-reverse xs)) in
    rw (r, k) (takes s (reverse xs) b)

pub pushed_kept : (xs ys : List Step) (s : Step) (at : ℕ) (b : List ℕ) → ys ≡ xs ++ s ∷ [] → at < length xs + 257 → value (reverse ys) at b ≡ value (reverse xs) at b
pushed_kept xs ys s at b e h =
    let r : reverse ys ≡ s ∷ reverse xs = ap reverse e ∙ reversed xs s in
    let l = length-reverse xs in
    let k : at < length (reverse xs) + 257 = omega arith in
    rw (r) (skips s (reverse xs) at b k)

test_true : (a b : ℕ) → a < b → nat_lt a b ≡ true
test_true a b h = grind (arith, nat_tests)

pub pushed_forward : (xs ys : List Step) (s : Step) → ys ≡ xs ++ s ∷ [] → forward (reverse xs) ≡ true → s.yes < length xs + 257 → s.no < length xs + 257 → forward (reverse ys) ≡ true
pushed_forward xs ys s e f h k =
    let r : reverse ys ≡ s ∷ reverse xs = ap reverse e ∙ reversed xs s in
    let l = length-reverse xs in
    let y = test_true s.yes (length (reverse xs) + 257) (omega arith) in
    let n = test_true s.no (length (reverse xs) + 257) (omega arith) in
    rw (r, y, n, f) refl

value_cond : (ys : List Step) (c : Bool) (m n : ℕ) (b : List ℕ) → value ys (cond c m n) b ≡ cond c (value ys m b) (value ys n b)
value_cond ys true m n b = refl
value_cond ys false m n b = refl

-- a step after its test
pub leaf_value : (xs ys : List Step) (s : Step) (at : ℕ) (b : List ℕ) → ys ≡ xs ++ s ∷ [] → at ≡ length xs + 257
    → value (reverse ys) at b ≡ cond (holds s.test b) (value (reverse xs) s.yes b) (value (reverse xs) s.no b)
leaf_value xs ys s at b e h = pushed_value xs ys s at b e h ∙ value_cond (reverse xs) (holds s.test b) s.yes s.no b

pub cond_not : (c : Bool) (m n : ℕ) → cond c n m ≡ cond (not c) m n
cond_not true m n = refl
cond_not false m n = refl

pub cond_and : (c d : Bool) (m n : ℕ) → cond c (cond d m n) n ≡ cond (c && d) m n
cond_and true d m n = refl
cond_and false d m n = refl

pub cond_or : (c d : Bool) (m n : ℕ) → cond c m (cond d m n) ≡ cond (c || d) m n
cond_or true d m n = refl
cond_or false d m n = refl

-- a rule before others: its action stands for itself
pub chosen_action : (ys : List Step) (c : Bool) (a : Action) (at other : ℕ) (b : List ℕ) → action_of at ≡ a → at < 257
    → action_of (cond c (value ys at b) (value ys other b)) ≡ cond c a (action_of (value ys other b))
chosen_action ys true a at other b e h = ap action_of (value_action ys at b h) ∙ e
chosen_action ys false a at other b e h = refl
