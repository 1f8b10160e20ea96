-- Properties that packet runs preserve.
use Rattle.std.specs.Prelude.{◌≡◌, ℕ, List, [], ◌∷◌, Bool, Some, length, map, slice_index_or, IsTrue}
use Rattle.std.specs.List.{All}
use Rattle.click_classes.specs.Fitting.{FitsPorts}
use Rattle.click_classes.specs.Queues.{IsSound}
use Rattle.click_classes.specs.Settings.{settings}
use Rattle.click_engine.specs.declared.run_state.Element.{Element}
use Rattle.click_engine.specs.declared.run_state.ConnectionEnd.{ConnectionEnd}
use Rattle.click_engine.specs.Plant.{Plant}
use Rattle.click_engine.specs.RunState.{Wiring, blank}

-- an element without the parts of its state that packets change
abbrev pub fixed : Element → Element
fixed e = record e { state = settings e.state }

-- nothing changed except elements and overruns
abbrev pub KeepsRest : Plant → Plant → Type 0
KeepsRest old new = new ≡ record old { elements = new.elements; overruns = new.overruns }

-- each element changed only in the parts of its state that packets change
pub record KeepsSettings (old new : Plant) : Type 0 where
  pub rest : KeepsRest old new
  pub elements : map fixed new.elements ≡ map fixed old.elements

-- no queue holds more than it has room for
abbrev pub AreSound : Plant → Type 0
AreSound v = All (λ (e : Element). IsSound e.state) v.elements

-- each element has ports that its state allows, and the port whose turn it is exists
abbrev pub AreFitting : Plant → Type 0
AreFitting v = All (λ (e : Element). FitsPorts e.inputs e.outputs e.state) v.elements

-- the indices that pass the test
abbrev pub Among : (ℕ → Bool) → ℕ → Type 0
Among places at = IsTrue (places at)

-- no connection leads out of this set of indices, in its own direction or in the opposite one
pub record IsClosed (net : Wiring) (P : ℕ → Type 0) : Type 0 where
  pub target : (at output : ℕ) (far : ConnectionEnd) → P at → net.target at output ≡ Some far → P far.element
  pub source : (at input : ℕ) (far : ConnectionEnd) → P at → net.source at input ≡ Some far → P far.element

-- each element outside the set is unchanged
pub record KeepsOutside (P : ℕ → Type 0) (old new : Plant) : Type 0 where
  pub rest : KeepsRest old new
  pub count : length new.elements ≡ length old.elements
  pub others : (at : ℕ) → (P at → ⊥) → slice_index_or new.elements at blank ≡ slice_index_or old.elements at blank

-- each of these indices is in the set
abbrev pub AllAre : (ℕ → Type 0) → List ℕ → Type 0
AllAre P [] = Unit {0}
AllAre P (at ∷ places) = P at × AllAre P places
