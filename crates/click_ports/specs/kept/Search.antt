-- A search in a graph of ports. For each port it knows the code, and two rows of ports that it is
-- linked with.
use Rattle.std.specs.Prelude.{◌≡◌, ◌⊎◌, ℕ, ◌+◌, ◌<◌, ◌≤◌, List, [], ◌∷◌, length, Contains, slice_index_or, Bool, true, false, if◌then◌else◌}
use Rattle.click_classes.specs.declared.ports.Code.{Code}
use Rattle.click_classes.specs.declared.ports.Code.TheVariants.{Agnostic}

abbrev pub code_of : List Code → ℕ → Code
code_of codes x = slice_index_or codes x Agnostic

abbrev pub row_at : List (List ℕ) → ℕ → List ℕ
row_at rows x = slice_index_or rows x []

-- one of the rows of port x has port y
abbrev pub IsNext : List (List ℕ) → List (List ℕ) → ℕ → ℕ → Type 0
IsNext outside inside x y = Contains (row_at outside x) y ⊎ Contains (row_at inside x) y

-- a graph of n ports, each with its two rows, which have no other ports
pub record IsGraph (n : ℕ) (outside inside : List (List ℕ)) : Type 0 where
  pub all_outside : length outside ≡ n
  pub all_inside : length inside ≡ n
  pub within : (x y : ℕ) → IsNext outside inside x y → y < n

-- marks spread from ports with the code, and from agnostic ones
abbrev pub IsOpen : List Code → Code → ℕ → Type 0
IsOpen codes k x = (code_of codes x ≡ k) ⊎ (code_of codes x ≡ Agnostic)

-- the marks begin at the ports with a code, and spread from each marked port with that code, or
-- agnostic, to its links
pub data Spreads (codes : List Code) (outside inside : List (List ℕ)) (k : Code) : ℕ → Type 0 where
  begins : (x : ℕ) → x < length codes → code_of codes x ≡ k → Spreads codes outside inside k x
  goes_on : (x y : ℕ) → Spreads codes outside inside k x → IsOpen codes k x → IsNext outside inside x y → Spreads codes outside inside k y

abbrev pub IsMarked : List Bool → ℕ → Type 0
IsMarked marks x = slice_index_or marks x false ≡ true

-- the number of ports without a mark
abbrev pub unmarked : List Bool → ℕ
unmarked [] = 0
unmarked (m ∷ marks) = if m then unmarked marks else unmarked marks + 1

-- the marks and the work after a row was marked
pub record RowMarked (codes : List Code) (k : Code) (row : List ℕ) (marks : List Bool) (work : List ℕ) (marks' : List Bool) (work' : List ℕ) : Type 0 where
  pub sized : length marks' ≡ length marks
  pub kept : (x : ℕ) → IsMarked marks x → IsMarked marks' x
  pub row_marked : (x : ℕ) → Contains row x → IsMarked marks' x
  pub only : (x : ℕ) → IsMarked marks' x → IsMarked marks x ⊎ Contains row x
  pub left : (x : ℕ) → Contains work x → Contains work' x
  pub added : (x : ℕ) → IsMarked marks' x → IsOpen codes k x → IsMarked marks x ⊎ Contains work' x
  pub only_added : (x : ℕ) → Contains work' x → Contains work x ⊎ (IsMarked marks' x × IsOpen codes k x)
  pub less : unmarked marks' + length work' ≤ unmarked marks + length work

-- a port is marked exactly if the marks spread to it
pub record AreMarked (codes : List Code) (outside inside : List (List ℕ)) (k : Code) (marks : List Bool) : Type 0 where
  pub sized : length marks ≡ length codes
  pub sound : (x : ℕ) → IsMarked marks x → Spreads codes outside inside k x
  pub complete : (x : ℕ) → Spreads codes outside inside k x → IsMarked marks x
