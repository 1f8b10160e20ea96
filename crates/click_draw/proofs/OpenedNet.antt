-- Lemmas on the net of a flat form that satisfies the port rules.
use Rattle.std.proofs.Common.{◌≡◌, ◌⊎◌, ◌<◌, ◌∙◌, ℕ, zero, suc, List, [], ◌∷◌, length, get_or, Result, Ok, Err, Bool, true, false, inl, inr, sym, subst, arith}
use Rattle.click_classes.specs.Made.{IsMade}
use Rattle.click_classes.specs.declared.fault.ArgFault.{ArgFault}
use Rattle.click_classes.specs.declared.fault.ArgFault.TheVariants.{NoMemory}
use Rattle.click_classes.specs.declared.state.State.{State}
use Rattle.click_expand.specs.declared.flat.Flat.{Flat}
use Rattle.click_expand.specs.declared.flat.FlatElement.{FlatElement}
use Rattle.click_router.specs.Opened.{AreFresh, IsBegun, IsLawful}
use Rattle.click_router.proofs.OfOpenings.FirstStates.{same_states}
use Rattle.click_draw.specs.Drawn.{IsLawfulForm}

-- a test that holds did not fail
pub holds-not-fails : (b : Bool) → true ≡ b → b ≡ false → ⊥
holds-not-fails b holds fails = let bad = holds ∙ fails in cc

-- making the first state of an element that has one fails only with out of memory
pub refused-memory : (e : FlatElement) (text : List ℕ) (r : Result State ArgFault) (f : ArgFault) → (q : State) × IsBegun e (Ok q) → text ≡ e.text
    → ((s : Result State ArgFault) → IsMade e.class text s → (r ≡ s) ⊎ (r ≡ Err NoMemory)) → r ≡ Err f → f ≡ NoMemory
refused-memory e text r f (q, begun) same only is =
    let made : IsMade e.class text (Ok q) = rw same begun in
    elim (only (Ok q) made) [
      | inl ok ↦ let p = sym ok ∙ is in cc
      | inr none ↦ let p = sym is ∙ none in cc
    ]

-- each element has its first state
pub begun-at : (es : List FlatElement) (qs : List State) → AreFresh es qs → (i : ℕ) (d : FlatElement) → i < length es → (q : State) × IsBegun (get_or es i d) (Ok q)
begun-at [] qs fresh i d lt = absurd (omega arith)
begun-at (e ∷ es) [] fresh i d lt = absurd fresh
begun-at (e ∷ es) (q ∷ qs) fresh zero d lt = (q, fresh.0)
begun-at (e ∷ es) (q ∷ qs) fresh (suc i) d lt = begun-at es qs fresh.1 i d (omega arith)

-- the flat form satisfies the port rules with any first states
pub lawful-with : (flat : Flat) (states : List State) → IsLawfulForm flat → AreFresh flat.elements states → IsLawful flat states
lawful-with flat states (begun, fresh, lawful) mine = subst (IsLawful flat) (same_states flat.elements begun states fresh mine) lawful
