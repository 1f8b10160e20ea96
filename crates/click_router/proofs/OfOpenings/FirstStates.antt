-- Lemmas about the first states of a list of elements.
use Rattle.std.proofs.Common.{◌≡◌, inl, inr, ℕ, ◌+◌, ◌<◌, List, [], ◌∷◌, ◌++◌, length, get_or, take, drop, Some, Result, Ok, Err, refl, sym, ap, ◌∙◌, subst, suc}
use Rattle.std.proofs.lemmas.List.{take_more, drop_more, take-append-drop}
use Rattle.click_classes.specs.Made.{IsMade}
use Rattle.click_classes.specs.State.{class}
use Rattle.click_classes.specs.declared.fault.ArgFault.{ArgFault}
use Rattle.click_classes.specs.declared.state.State.{State}
use Rattle.click_classes.proofs.OfStates.OneFirstState.{one_made}
use Rattle.click_classes.proofs.OfPorts.PortUses.{first_well}
use Rattle.click_expand.specs.declared.flat.FlatElement.{FlatElement}
use Rattle.click_ports.specs.Net.{AreStatesOf}
use Rattle.click_router.specs.Opened.{IsBegun, AreFresh, IsMemoryOr, of_argument_fault}
use Rattle.click_router.specs.kept.Refused.{IsUnfit}
use Rattle.click_router.specs.declared.fault.ConfigFault.{ConfigFault}

pub AreFresh-push : (es : List FlatElement) (qs : List State) (e : FlatElement) (q : State) → AreFresh es qs → IsBegun e (Ok q) → AreFresh (es ++ e ∷ []) (qs ++ q ∷ [])
AreFresh-push [] [] e q h f = (f, tt)
AreFresh-push [] (p ∷ qs) e q h f = absurd h
AreFresh-push (d ∷ es) [] e q h f = absurd h
AreFresh-push (d ∷ es) (p ∷ qs) e q h f = (h.0, AreFresh-push es qs e q h.1 f)

pub length_fresh : (es : List FlatElement) (qs : List State) → AreFresh es qs → length qs ≡ length es
length_fresh [] [] h = refl
length_fresh [] (q ∷ qs) h = absurd h
length_fresh (e ∷ es) [] h = absurd h
length_fresh (e ∷ es) (q ∷ qs) h = ap suc (length_fresh es qs h.1)

begun-class : (e : FlatElement) (q : State) → IsBegun e (Ok q) → e.class ≡ class q
begun-class e q h = sym (first_well e.class _ q h.fresh).0

-- first states are of the elements' classes
pub states_of : (es : List FlatElement) (qs : List State) → AreFresh es qs → AreStatesOf es qs
states_of [] [] h = refl
states_of [] (q ∷ qs) h = absurd h
states_of (e ∷ es) [] h = absurd h
states_of (e ∷ es) (q ∷ qs) h =
    let x = begun-class e q h.0 in
    let xs = states_of es qs h.1 in cc

-- ---- at most one first state, or one fault

pub begun_once : (e : FlatElement) (r s : Result State ArgFault) → IsBegun e r → IsBegun e s → r ≡ s
begun_once e r s h k = one_made e.class e.text r s h k

same_state : (e : FlatElement) (q r : State) → IsBegun e (Ok q) → IsBegun e (Ok r) → q ≡ r
same_state e q r h k = let p = begun_once e (Ok q) (Ok r) h k in cc

pub same_states : (es : List FlatElement) (qs rs : List State) → AreFresh es qs → AreFresh es rs → qs ≡ rs
same_states [] [] [] h k = refl
same_states [] [] (r ∷ rs) h k = absurd k
same_states [] (q ∷ qs) rs h k = absurd h
same_states (e ∷ es) [] rs h k = absurd h
same_states (e ∷ es) (q ∷ qs) [] h k = absurd k
same_states (e ∷ es) (q ∷ qs) (r ∷ rs) h k = ap (λ x. x ∷ qs) (same_state e q r h.0 k.0) ∙ ap (λ xs. r ∷ xs) (same_states es qs rs h.1 k.1)

-- an element that refuses its arguments has no first state
pub refused_state : (fit : List FlatElement) (e : FlatElement) (more : List FlatElement) (qs : List State) (f : ArgFault) → AreFresh (fit ++ e ∷ more) qs → IsBegun e (Err f) → ⊥
refused_state [] e more [] f h b = h
refused_state [] e more (q ∷ qs) f h b = let p = begun_once e (Ok q) (Err f) h.0 b in cc
refused_state (d ∷ fit) e more [] f h b = h
refused_state (d ∷ fit) e more (q ∷ qs) f h b = refused_state fit e more qs f h.1 b

-- the fault of the first element that refuses its arguments
pub unfit : (es fit : List FlatElement) (e : FlatElement) (more : List FlatElement) (qs : List State) (f : ConfigFault) → es ≡ fit ++ e ∷ more → AreFresh fit qs →
    IsMemoryOr f ((fault : ArgFault) × IsBegun e (Err fault) × (f ≡ of_argument_fault e fault)) → IsMemoryOr f (IsUnfit es f)
unfit es fit e more qs f splits fresh (inl m) = inl m
unfit es fit e more qs f splits fresh (inr (fault, b, is)) =
    inr (record { fit = fit; element = e; more = more; splits = splits; states = qs; fresh = fresh; fault = fault; refused = b; is = is })

-- ---- items of a list, by index

module _ (es : List FlatElement) (i : ℕ) (e : FlatElement) (l : i < length es) (is : e ≡ get_or es i e) where
  pub taken : take (i + 1) es ≡ take i es ++ e ∷ []
  taken = take_more es i e l ∙ ap (λ d. take i es ++ d ∷ []) (sym is)

  pub dropped : drop i es ≡ e ∷ drop (i + 1) es
  dropped = drop_more es i e l ∙ ap (λ d. d ∷ drop (i + 1) es) (sym is)

  pub between : es ≡ take i es ++ e ∷ drop (i + 1) es
  between = sym (take-append-drop i es) ∙ ap (λ ds. take i es ++ ds) dropped
