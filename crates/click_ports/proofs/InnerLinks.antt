-- The links inside an element, one number after another.
use Rattle.std.proofs.Common.{◌≡◌, inl, inr, ℕ, ◌+◌, ◌<◌, ◌≤◌, List, [], ◌∷◌, ◌++◌, length, get_or, true, refl, sym, ap, ◌∙◌, subst, arith, Contains}
use Rattle.std.proofs.lemmas.List.{length_push, get_or_append_left, get_or_at}
use Rattle.std.proofs.lemmas.Option.{slice_get-get_or}
use Rattle.std.proofs.lemmas.List.Elements.{Contains-push, Contains-push_cases, Contains-append_left}
use Rattle.std.proofs.lemmas.Bool.{cases_lt}
use Rattle.click_base.specs.declared.class.Class.{Class}
use Rattle.click_classes.specs.declared.ports.Side.{Side}
use Rattle.click_classes.specs.declared.ports.Side.TheVariants.{Input, Output}
use Rattle.click_classes.specs.declared.ports.Code.{Code}
use Rattle.click_classes.specs.declared.ports.Code.TheVariants.{Agnostic}
use Rattle.click_classes.specs.Ports.{passes}
use Rattle.click_expand.specs.declared.flat.Connection.{Connection}
use Rattle.click_ports.specs.declared.port.Port.{Port}
use Rattle.click_ports.specs.Ports.{Has, used, port_index, first}
use Rattle.click_ports.specs.Links.{class_at, code_at, IsAgnostic}
use Rattle.click_ports.specs.kept.Passages.{Crosses, across, passes_between, opposite, IsRow, AreRows}
use Rattle.click_ports.specs.kept.Marks.{AreCodes}
use Rattle.click_ports.specs.kept.Search.{code_of}
use Rattle.click_ports.specs.kept.Wiring.{Wiring, AreWithin, InPlace}
use Rattle.click_ports.proofs.PortNumbers.{number-same, number-within}
use Rattle.click_ports.proofs.PortUses.{has-within}

-- the links to ports with lower numbers
pub record IsRowBelow (w : Wiring) (p : Port) (below : ℕ) (row : List ℕ) : Type 0 where
  pub sound : (y : ℕ) → Contains row y → (n : ℕ) × Crosses w.shapes w.connections p n × (port_index w.connections (across p n) ≡ y)
  pub complete : (n : ℕ) → n < below → Crosses w.shapes w.connections p n → Contains row (port_index w.connections (across p n))

contains_none : (y : ℕ) → Contains {X = ℕ} [] y → ⊥
contains_none y (k, l, e) = omega (arith, l)

pub row-none : (w : Wiring) (p : Port) (from : ℕ) → ((n : ℕ) → Crosses w.shapes w.connections p n → from ≤ n) → IsRowBelow w p from []
row-none w p from h = record {
  sound = λ y k. absurd (contains_none y k);
  complete = λ n l k. let b : from ≤ n = h n k in absurd (omega (arith, l, b));
}

pub row-more : (w : Wiring) (p : Port) (n : ℕ) (row new : List ℕ) → Crosses w.shapes w.connections p n → new ≡ row ++ port_index w.connections (across p n) ∷ [] → IsRowBelow w p n row → IsRowBelow w p (n + 1) new
row-more w p n row new c is k =
    let y : ℕ = port_index w.connections (across p n) in
    subst (IsRowBelow w p (n + 1)) (sym is) (record {
      sound = λ z h. elim (Contains-push_cases row y z h) [ inl e ↦ k.sound z e | inr e ↦ (n, c, e) ];
      complete = λ m l d. elim (cases_lt m n) [
        | inl b ↦ Contains-append_left row (y ∷ []) _ (k.complete m b d)
        | inr b ↦ (let here : m ≡ n = omega (arith, l, b) in subst (λ x. Contains (row ++ y ∷ []) (port_index w.connections (across p x))) (sym here) (Contains-push row y))
      ];
    })

pub row-same : (w : Wiring) (p : Port) (n : ℕ) (row : List ℕ) → (Crosses w.shapes w.connections p n → ⊥) → IsRowBelow w p n row → IsRowBelow w p (n + 1) row
row-same w p n row c k = record {
  sound = k.sound;
  complete = λ m l d. elim (cases_lt m n) [
    | inl b ↦ k.complete m b d
    | inr b ↦ (let here : m ≡ n = omega (arith, l, b) in absurd (c (subst (λ x. Crosses w.shapes w.connections p x) here d)))
  ];
}

pub row-all : (w : Wiring) (p : Port) (to : ℕ) (row : List ℕ) → ((n : ℕ) → Crosses w.shapes w.connections p n → n < to) → IsRowBelow w p to row → IsRow w p row
row-all w p to row h k = record { sound = k.sound; complete = λ n c. k.complete n (h n c) c }

-- what holds if packets pass in either direction holds if they pass between the sides
pub between : (c : Class) (s : Side) (i n : ℕ) {P : Type 0} → (passes c i n ≡ true → P) → (passes c n i ≡ true → P) → passes_between c s i n ≡ true → P
between c Input i n f g h = f h
between c Output i n f g h = g h

-- a link goes to a number within the bounds
pub crosses-in : (w : Wiring) (p : Port) (side : Side) (class : Class) (count from to n : ℕ) → side ≡ opposite p.side → class ≡ class_at w.shapes p.element → count ≡ used w.connections p.element side →
    ((m : ℕ) → m < count → passes class p.number m ≡ true → (from ≤ m) × (m < to)) → ((m : ℕ) → m < count → passes class m p.number ≡ true → (from ≤ m) × (m < to)) →
    Crosses w.shapes w.connections p n → (from ≤ n) × (n < to)
crosses-in w p side class count from to n a b d f g k =
    let l : n < count = let e : count ≡ used w.connections p.element (opposite p.side) = d ∙ ap (used w.connections p.element) a in let h = k.there in omega (arith, e, h) in
    let i : passes_between class p.side p.number n ≡ true = ap (λ x. passes_between x p.side p.number n) b ∙ k.inside in
    between class p.side p.number n (f n l) (g n l) i

pub crosses-made : (w : Wiring) (p : Port) (side : Side) (class : Class) (n : ℕ) → side ≡ opposite p.side → class ≡ class_at w.shapes p.element → Has w.connections p → n < used w.connections p.element side →
    IsAgnostic w.shapes p → IsAgnostic w.shapes (record { element = p.element; side = side; number = n }) → passes_between class p.side p.number n ≡ true → Crosses w.shapes w.connections p n
crosses-made w p side class n a b h l g i k = record {
  here = h;
  there = subst (λ s. n < used w.connections p.element s) a l;
  agnostic_here = g;
  agnostic_there = subst (λ s. IsAgnostic w.shapes (record { element = p.element; side = s; number = n })) a i;
  inside = ap (λ x. passes_between x p.side p.number n) (sym b) ∙ k;
}

pub number-across : (w : Wiring) (p : Port) (side : Side) (n : ℕ) → side ≡ opposite p.side → port_index w.connections (record { element = p.element; side = side; number = n }) ≡ port_index w.connections (across p n)
number-across w p side n a = ap (λ s. port_index w.connections (record { element = p.element; side = s; number = n })) a

pub passes-across : (w : Wiring) (p : Port) (class : Class) (n : ℕ) → class ≡ class_at w.shapes p.element → Crosses w.shapes w.connections p n → passes_between class p.side p.number n ≡ true
passes-across w p class n b k = ap (λ x. passes_between x p.side p.number n) b ∙ k.inside

pub agnostic-across : (w : Wiring) (p : Port) (side : Side) (n : ℕ) → side ≡ opposite p.side → Crosses w.shapes w.connections p n → IsAgnostic w.shapes (record { element = p.element; side = side; number = n })
agnostic-across w p side n a k = subst (λ s. IsAgnostic w.shapes (record { element = p.element; side = s; number = n })) (sym a) k.agnostic_there

-- the rows of the ports with lower numbers
pub record AreRowsBelow (w : Wiring) (below : ℕ) (rows : List (List ℕ)) : Type 0 where
  pub all : length rows ≡ below
  pub right : (p : Port) → Has w.connections p → port_index w.connections p < below → IsRow w p (get_or rows (port_index w.connections p) [])

pub rows-none : (w : Wiring) → AreRowsBelow w 0 []
rows-none w = record { all = refl; right = λ p h l. absurd (omega (arith, l)) }

-- the item at an index of a list with one more item
pub read-more : {X : Type 0} (xs : List X) (x d : X) (n i : ℕ) (P : X → Type 0) → length xs ≡ n → i < n + 1 → (i < n → P (get_or xs i d)) → (i ≡ n → P x) → P (get_or (xs ++ x ∷ []) i d)
read-more xs x d n i P l b old new = elim (cases_lt i n) [
  | inl a ↦ subst P (sym (get_or_append_left xs (x ∷ []) d i (omega (arith, a, l)))) (old a)
  | inr a ↦ (let here : i ≡ n = omega (arith, a, b) in subst P (sym (get_or_at xs x [] d i (l ∙ sym here))) (new here))
]

pub rows-more : (w : Wiring) (q : Port) (n : ℕ) (rows new : List (List ℕ)) (row : List ℕ) → Has w.connections q → port_index w.connections q ≡ n → IsRow w q row → new ≡ rows ++ row ∷ [] →
    AreRowsBelow w n rows → AreRowsBelow w (n + 1) new
rows-more w q n rows new row h e r is k = subst (AreRowsBelow w (n + 1)) (sym is) (record {
  all = length_push rows row ∙ ap (λ x. x + 1) k.all;
  right = λ p g l. read-more rows row [] n (port_index w.connections p) (IsRow w p) k.all l (λ a. k.right p g a)
      (λ a. subst (λ x. IsRow w x row) (number-same w.connections q p h g (e ∙ sym a)) r);
})

pub rows-all : (w : Wiring) (n : ℕ) (rows : List (List ℕ)) → AreWithin (length w.shapes) w.connections → n ≡ first w.connections (length w.shapes) → AreRowsBelow w n rows → AreRows w rows
rows-all w n rows i e k = record {
  all = k.all ∙ e;
  right = λ p h. k.right p h (let b = number-within w.connections (length w.shapes) p h (has-within (length w.shapes) w.connections p i h) in omega (arith, b, e));
}

-- the codes of the ports with lower numbers
pub record AreCodesBelow (w : Wiring) (below : ℕ) (codes : List Code) : Type 0 where
  pub all : length codes ≡ below
  pub right : (p : Port) → Has w.connections p → port_index w.connections p < below → code_of codes (port_index w.connections p) ≡ code_at w.shapes p

pub codes-none : (w : Wiring) → AreCodesBelow w 0 []
codes-none w = record { all = refl; right = λ p h l. absurd (omega (arith, l)) }

pub codes-more : (w : Wiring) (q : Port) (n : ℕ) (codes new : List Code) (code : Code) → Has w.connections q → port_index w.connections q ≡ n → code ≡ code_at w.shapes q → new ≡ codes ++ code ∷ [] →
    AreCodesBelow w n codes → AreCodesBelow w (n + 1) new
codes-more w q n codes new code h e r is k = subst (AreCodesBelow w (n + 1)) (sym is) (record {
  all = length_push codes code ∙ ap (λ x. x + 1) k.all;
  right = λ p g l. read-more codes code Agnostic n (port_index w.connections p) (λ c. c ≡ code_at w.shapes p) k.all l (λ a. k.right p g a)
      (λ a. r ∙ ap (code_at w.shapes) (number-same w.connections q p h g (e ∙ sym a)));
})

pub codes-all : (w : Wiring) (n : ℕ) (codes : List Code) → AreWithin (length w.shapes) w.connections → n ≡ first w.connections (length w.shapes) → AreCodesBelow w n codes → AreCodes w codes
codes-all w n codes i e k = record {
  all = k.all ∙ e;
  right = λ p h. k.right p h (let b = number-within w.connections (length w.shapes) p h (has-within (length w.shapes) w.connections p i h) in omega (arith, b, e));
}

-- the port at an index exists, and has that number
pub read-place : (cs : List Connection) (ports : List Port) (i : ℕ) (d : Port) → InPlace cs ports → i < length ports → Has cs (get_or ports i d) × (port_index cs (get_or ports i d) ≡ i)
read-place cs ports i d k l = k i (get_or ports i d) (slice_get-get_or ports i d l)
