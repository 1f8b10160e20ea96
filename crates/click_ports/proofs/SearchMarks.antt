-- The marks of a search.
use Rattle.std.proofs.Common.{◌≡◌, ◌⊎◌, inl, inr, ℕ, ◌+◌, ◌<◌, suc, zero, List, [], ◌∷◌, ◌++◌, length, get_or, set, Bool, true, false, cond, refl, sym, ap, ◌∙◌, subst, arith, Contains}
use Rattle.std.specs.Prelude.{replicate}
use Rattle.std.proofs.lemmas.List.{get_or-set_same, get_or-set_other, length-set, length_push, get_or_default, length-replicate}
use Rattle.std.proofs.lemmas.List.Elements.{Contains-push, Contains-push_cases, Contains-append_left}
use Rattle.std.proofs.lemmas.Bool.{cases_lt, cases_eq}
use Rattle.click_classes.specs.declared.ports.Code.{Code}
use Rattle.click_classes.specs.declared.ports.Code.TheVariants.{Agnostic}
use Rattle.click_ports.specs.kept.Search.{code_of, row_at, IsNext, IsGraph, IsOpen, Spreads, begins, goes_on, IsMarked, unmarked, RowMarked, AreMarked}

contains_none : (y : ℕ) → Contains {X = ℕ} [] y → ⊥
contains_none y (k, l, e) = omega (arith, l)

pub marked-none : (codes : List Code) (k : Code) (marks : List Bool) (work : List ℕ) → RowMarked codes k [] marks work marks work
marked-none codes k marks work = record {
  sized = refl;
  kept = λ x h. h;
  row_marked = λ x h. absurd (contains_none x h);
  only = λ x h. inl h;
  left = λ x h. h;
  added = λ x h o. inl h;
  only_added = λ x h. inl h;
  less = omega arith;
}

-- the next port of the row is already marked
pub marked-old : (codes : List Code) (k : Code) (row : List ℕ) (y : ℕ) (marks marks' : List Bool) (work work' : List ℕ) → RowMarked codes k row marks work marks' work' → IsMarked marks' y →
    RowMarked codes k (row ++ y ∷ []) marks work marks' work'
marked-old codes k row y marks marks' work work' r m = record {
  sized = r.sized;
  kept = r.kept;
  row_marked = λ x h. elim (Contains-push_cases row y x h) [ inl e ↦ r.row_marked x e | inr e ↦ subst (λ z. IsMarked marks' z) e m ];
  only = λ x h. elim (r.only x h) [ inl e ↦ inl e | inr e ↦ inr (Contains-append_left row (y ∷ []) x e) ];
  left = r.left;
  added = r.added;
  only_added = r.only_added;
  less = r.less;
}

one_less : (marks : List Bool) (y : ℕ) → y < length marks → get_or marks y false ≡ false → unmarked (set marks y true) + 1 ≡ unmarked marks
one_less (m ∷ marks) zero l h = by m h
  where
    by : (b : Bool) → b ≡ false → unmarked marks + 1 ≡ cond b (unmarked marks) (unmarked marks + 1)
    by false h = refl
    by true h = absurd (cc h)
one_less (m ∷ marks) (suc y) l h = by m (unmarked (set marks y true)) (unmarked marks) (one_less marks y (omega (arith, l)) h)
  where
    by : (b : Bool) (n k : ℕ) → n + 1 ≡ k → cond b n (n + 1) + 1 ≡ cond b k (k + 1)
    by false n k e = ap (λ x. x + 1) e
    by true n k e = e
one_less [] y l h = absurd (omega (arith, l))

set-marks : (marks : List Bool) (y x : ℕ) → y < length marks → IsMarked (set marks y true) x → IsMarked marks x ⊎ (y ≡ x)
set-marks marks y x l h = elim (cases_eq x y) [
  | inl e ↦ inr (sym e)
  | inr e ↦ inl (sym (get_or-set_other marks y x true false e) ∙ h)
]

set-keeps : (marks : List Bool) (y x : ℕ) → y < length marks → IsMarked marks x → IsMarked (set marks y true) x
set-keeps marks y x l h = elim (cases_eq x y) [
  | inl e ↦ subst (λ z. get_or (set marks y true) z false ≡ true) (sym e) (get_or-set_same marks y true false l)
  | inr e ↦ get_or-set_other marks y x true false e ∙ h
]

-- the next port of the row is marked, and becomes work if it is open
pub marked-new : (codes : List Code) (k : Code) (row : List ℕ) (y : ℕ) (marks marks' : List Bool) (work work' more : List ℕ) → RowMarked codes k row marks work marks' work' → y < length marks' →
    get_or marks' y false ≡ false → ((IsOpen codes k y) × (more ≡ work' ++ y ∷ [])) ⊎ ((IsOpen codes k y → ⊥) × (more ≡ work')) →
    RowMarked codes k (row ++ y ∷ []) marks work (set marks' y true) more
marked-new codes k row y marks marks' work work' more r l f (inl (o, is)) =
    subst (RowMarked codes k (row ++ y ∷ []) marks work (set marks' y true)) (sym is) (record {
      sized = length-set marks' y true ∙ r.sized;
      kept = λ x h. set-keeps marks' y x l (r.kept x h);
      row_marked = λ x h. elim (Contains-push_cases row y x h) [
        | inl e ↦ set-keeps marks' y x l (r.row_marked x e)
        | inr e ↦ subst (λ z. get_or (set marks' y true) z false ≡ true) e (get_or-set_same marks' y true false l)
      ];
      only = λ x h. elim (set-marks marks' y x l h) [
        | inl e ↦ elim (r.only x e) [ inl a ↦ inl a | inr a ↦ inr (Contains-append_left row (y ∷ []) x a) ]
        | inr e ↦ inr (subst (Contains (row ++ y ∷ [])) e (Contains-push row y))
      ];
      left = λ x h. Contains-append_left work' (y ∷ []) x (r.left x h);
      added = λ x h p. elim (set-marks marks' y x l h) [
        | inl e ↦ elim (r.added x e p) [ inl a ↦ inl a | inr a ↦ inr (Contains-append_left work' (y ∷ []) x a) ]
        | inr e ↦ inr (subst (Contains (work' ++ y ∷ [])) e (Contains-push work' y))
      ];
      only_added = λ x h. elim (Contains-push_cases work' y x h) [
        | inl e ↦ elim (r.only_added x e) [ inl a ↦ inl a | inr a ↦ inr (set-keeps marks' y x l a.0, a.1) ]
        | inr e ↦ inr (subst (λ z. get_or (set marks' y true) z false ≡ true) e (get_or-set_same marks' y true false l), subst (IsOpen codes k) e o)
      ];
      less = (let a = one_less marks' y l f in let b = length_push work' y in let d = r.less in omega (arith, a, b, d));
    })
marked-new codes k row y marks marks' work work' more r l f (inr (o, is)) =
    subst (RowMarked codes k (row ++ y ∷ []) marks work (set marks' y true)) (sym is) (record {
      sized = length-set marks' y true ∙ r.sized;
      kept = λ x h. set-keeps marks' y x l (r.kept x h);
      row_marked = λ x h. elim (Contains-push_cases row y x h) [
        | inl e ↦ set-keeps marks' y x l (r.row_marked x e)
        | inr e ↦ subst (λ z. get_or (set marks' y true) z false ≡ true) e (get_or-set_same marks' y true false l)
      ];
      only = λ x h. elim (set-marks marks' y x l h) [
        | inl e ↦ elim (r.only x e) [ inl a ↦ inl a | inr a ↦ inr (Contains-append_left row (y ∷ []) x a) ]
        | inr e ↦ inr (subst (Contains (row ++ y ∷ [])) e (Contains-push row y))
      ];
      left = λ x h. r.left x h;
      added = λ x h p. elim (set-marks marks' y x l h) [
        | inl e ↦ r.added x e p
        | inr e ↦ absurd (o (subst (IsOpen codes k) (sym e) p))
      ];
      only_added = λ x h. elim (r.only_added x h) [ inl a ↦ inl a | inr a ↦ inr (set-keeps marks' y x l a.0, a.1) ];
      less = (let a = one_less marks' y l f in let d = r.less in omega (arith, a, d));
    })

-- the next port is marked, for the lists that the code makes
pub marked-made : (codes : List Code) (k : Code) (row : List ℕ) (y : ℕ) (marks some made : List Bool) (work left more : List ℕ) → RowMarked codes k row marks work some left → y < length some →
    get_or some y false ≡ false → made ≡ set some y true → ((IsOpen codes k y) × (more ≡ left ++ y ∷ [])) ⊎ ((IsOpen codes k y → ⊥) × (more ≡ left)) →
    RowMarked codes k (row ++ y ∷ []) marks work made more
marked-made codes k row y marks some made work left more r l f is o =
    subst (λ ms. RowMarked codes k (row ++ y ∷ []) marks work ms more) (sym is) (marked-new codes k row y marks some work left more r l f o)

-- whether marks spread from a port, by its code
pub open-read : (codes : List Code) (k : Code) (y : ℕ) (d : Code) → y < length codes → (get_or codes y d ≡ k) ⊎ (get_or codes y d ≡ Agnostic) → IsOpen codes k y
open-read codes k y d l (inl h) = inl (get_or_default codes y Agnostic d l ∙ h)
open-read codes k y d l (inr h) = inr (get_or_default codes y Agnostic d l ∙ h)

pub read-open : (codes : List Code) (k : Code) (y : ℕ) (d : Code) → y < length codes → IsOpen codes k y → (get_or codes y d ≡ k) ⊎ (get_or codes y d ≡ Agnostic)
read-open codes k y d l (inl h) = inl (get_or_default codes y d Agnostic l ∙ h)
read-open codes k y d l (inr h) = inr (get_or_default codes y d Agnostic l ∙ h)

-- the ports with a code, among those with lower numbers
pub record AreNumbersBelow (codes : List Code) (k : Code) (below : ℕ) (found : List ℕ) : Type 0 where
  pub sound : (x : ℕ) → Contains found x → (x < below) × (code_of codes x ≡ k)
  pub complete : (x : ℕ) → x < below → code_of codes x ≡ k → Contains found x

pub numbers-none : (codes : List Code) (k : Code) → AreNumbersBelow codes k 0 []
numbers-none codes k = record { sound = λ x h. absurd (contains_none x h); complete = λ x l e. absurd (omega (arith, l)) }

pub numbers-more : (codes : List Code) (k : Code) (n : ℕ) (found new : List ℕ) → code_of codes n ≡ k → new ≡ found ++ n ∷ [] → AreNumbersBelow codes k n found → AreNumbersBelow codes k (n + 1) new
numbers-more codes k n found new e is r = subst (AreNumbersBelow codes k (n + 1)) (sym is) (record {
  sound = λ x h. elim (Contains-push_cases found n x h) [
    | inl a ↦ (let b = r.sound x a in let l = b.0 in (omega (arith, l), b.1))
    | inr a ↦ (omega (arith, a), subst (λ y. code_of codes y ≡ k) a e)
  ];
  complete = λ x l a. elim (cases_lt x n) [
    | inl b ↦ Contains-append_left found (n ∷ []) x (r.complete x b a)
    | inr b ↦ (let here : n ≡ x = omega (arith, l, b) in subst (Contains (found ++ n ∷ [])) here (Contains-push found n))
  ];
})

pub numbers-same : (codes : List Code) (k : Code) (n : ℕ) (found : List ℕ) → (code_of codes n ≡ k → ⊥) → AreNumbersBelow codes k n found → AreNumbersBelow codes k (n + 1) found
numbers-same codes k n found e r = record {
  sound = λ x h. (let b = r.sound x h in let l = b.0 in (omega (arith, l), b.1));
  complete = λ x l a. elim (cases_lt x n) [
    | inl b ↦ r.complete x b a
    | inr b ↦ (let here : x ≡ n = omega (arith, l, b) in absurd (e (subst (λ y. code_of codes y ≡ k) here a)))
  ];
}

-- what holds while there is work
pub record IsUnderWay (codes : List Code) (outside inside : List (List ℕ)) (k : Code) (marks : List Bool) (work : List ℕ) : Type 0 where
  pub sized : length marks ≡ length codes
  pub sound : (x : ℕ) → IsMarked marks x → Spreads codes outside inside k x
  pub begun : (x : ℕ) → x < length codes → code_of codes x ≡ k → IsMarked marks x
  pub waiting : (x : ℕ) → Contains work x → IsMarked marks x × IsOpen codes k x
  pub done : (x : ℕ) → IsMarked marks x → IsOpen codes k x → Contains work x ⊎ ((y : ℕ) → IsNext outside inside x y → IsMarked marks y)

pub marked-within : (marks : List Bool) (x : ℕ) → IsMarked marks x → x < length marks
marked-within [] x h = absurd (cc h)
marked-within (m ∷ marks) zero h = omega arith
marked-within (m ∷ marks) (suc x) h = let l = marked-within marks x h in omega (arith, l)

no_marks : (n x : ℕ) → IsMarked (replicate n false) x → ⊥
no_marks zero x h = cc h
no_marks (suc n) zero h = cc h
no_marks (suc n) (suc x) h = no_marks n x h

module _ (codes : List Code) (outside inside : List (List ℕ)) (k : Code) where
  -- the ports with the code are marked, and are the work
  pub way-start : (starts work work' : List ℕ) (marks marks' : List Bool) → marks ≡ replicate (length codes) false → work ≡ [] →
      ((x : ℕ) → Contains starts x → (x < length codes) × (code_of codes x ≡ k)) → ((x : ℕ) → x < length codes → code_of codes x ≡ k → Contains starts x) →
      RowMarked codes k starts marks work marks' work' → IsUnderWay codes outside inside k marks' work'
  way-start starts work work' marks marks' none empty found all r =
      let new : (x : ℕ) → IsMarked marks x → ⊥ = λ x h. no_marks (length codes) x (subst (λ ms. IsMarked ms x) none h) in record {
        sized = r.sized ∙ ap length none ∙ length-replicate (length codes) false;
        sound = λ x h. elim (r.only x h) [ inl a ↦ absurd (new x a) | inr a ↦ (let f = found x a in begins x f.0 f.1) ];
        begun = λ x l e. r.row_marked x (all x l e);
        waiting = λ x h. elim (r.only_added x h) [ inl a ↦ absurd (contains_none x (subst (λ ws. Contains ws x) empty a)) | inr a ↦ a ];
        done = λ x h o. elim (r.added x h o) [ inl a ↦ absurd (new x a) | inr a ↦ inl a ];
      }

  -- one port of the work is done
  pub way-on : (x : ℕ) (marks marks1 marks2 : List Bool) (work rest work1 work2 : List ℕ) → work ≡ rest ++ x ∷ [] → RowMarked codes k (row_at outside x) marks rest marks1 work1 →
      RowMarked codes k (row_at inside x) marks1 work1 marks2 work2 → IsUnderWay codes outside inside k marks work → IsUnderWay codes outside inside k marks2 work2
  way-on x marks marks1 marks2 work rest work1 work2 popped r1 r2 w =
      let in_work : (z : ℕ) → Contains rest z → Contains work z = λ z h. subst (λ ws. Contains ws z) (sym popped) (Contains-append_left rest (x ∷ []) z h) in
      let x_waits = w.waiting x (subst (λ ws. Contains ws x) (sym popped) (Contains-push rest x)) in
      record {
        sized = r2.sized ∙ r1.sized ∙ w.sized;
        sound = λ y h. elim (r2.only y h) [
          | inr a ↦ goes_on x y (w.sound x x_waits.0) x_waits.1 (inr a)
          | inl a ↦ elim (r1.only y a) [ inr b ↦ goes_on x y (w.sound x x_waits.0) x_waits.1 (inl b) | inl b ↦ w.sound y b ]
        ];
        begun = λ y l e. r2.kept y (r1.kept y (w.begun y l e));
        waiting = λ z h. elim (r2.only_added z h) [
          | inr a ↦ a
          | inl a ↦ elim (r1.only_added z a) [ inr b ↦ (r2.kept z b.0, b.1) | inl b ↦ (let c = w.waiting z (in_work z b) in (r2.kept z (r1.kept z c.0), c.1)) ]
        ];
        done = λ z h o. elim (r2.added z h o) [
          | inr a ↦ inl a
          | inl a ↦ elim (r1.added z a o) [
            | inr b ↦ inl (r2.left z b)
            | inl b ↦ elim (w.done z b o) [
              | inr d ↦ inr (λ y n. r2.kept y (r1.kept y (d y n)))
              | inl d ↦ elim (Contains-push_cases rest x z (subst (λ ws. Contains ws z) popped d)) [
                | inl e ↦ inl (r2.left z (r1.left z e))
                | inr e ↦ inr (subst (λ v. (y : ℕ) → IsNext outside inside v y → IsMarked marks2 y) e (λ y n. elim n [ inl i ↦ r2.kept y (r1.row_marked y i) | inr i ↦ r2.row_marked y i ]))
              ]
            ]
          ]
        ];
      }

  all_marked : (marks : List Bool) (work : List ℕ) → work ≡ [] → IsUnderWay codes outside inside k marks work → (x : ℕ) → Spreads codes outside inside k x → IsMarked marks x
  all_marked marks work empty w z (begins x l e) = w.begun x l e
  all_marked marks work empty w z (goes_on x y s o n) = elim (w.done x (all_marked marks work empty w x s) o) [
    | inl a ↦ absurd (contains_none x (subst (λ ws. Contains ws x) empty a))
    | inr a ↦ a y n
  ]

  -- no work is left
  pub way-end : (marks : List Bool) (work : List ℕ) → work ≡ [] → IsUnderWay codes outside inside k marks work → AreMarked codes outside inside k marks
  way-end marks work empty w = record { sized = w.sized; sound = w.sound; complete = all_marked marks work empty w }

pub waits-within : (codes : List Code) (outside inside : List (List ℕ)) (k : Code) (marks : List Bool) (work rest : List ℕ) (x : ℕ) → IsUnderWay codes outside inside k marks work → work ≡ rest ++ x ∷ [] → x < length codes
waits-within codes outside inside k marks work rest x w popped =
    let m = marked-within marks x (w.waiting x (subst (λ ws. Contains ws x) (sym popped) (Contains-push rest x))).0 in omega (arith, m, w.sized)

pub none-left : (xs : List ℕ) → length xs ≡ 0 → xs ≡ []
none-left [] h = refl
none-left (x ∷ xs) h = absurd (omega (arith, h))

pub row-within : (n x : ℕ) (outside inside : List (List ℕ)) (row : List ℕ) → IsGraph n outside inside → (row ≡ row_at outside x) ⊎ (row ≡ row_at inside x) → (y : ℕ) → Contains row y → y < n
row-within n x outside inside row g (inl h) y c = g.within x y (inl (subst (λ r. Contains r y) h c))
row-within n x outside inside row g (inr h) y c = g.within x y (inr (subst (λ r. Contains r y) h c))

-- the row at a number
pub row-read : (rows : List (List ℕ)) (x : ℕ) (r row : List ℕ) → x < length rows → r ≡ get_or rows x r → row ≡ r → row ≡ row_at rows x
row-read rows x r row l h e = e ∙ h ∙ get_or_default rows x r [] l
