-- The contract of a boxed call, from the contract of the function or closure in the box.
use mathlib.Core.Path.{refl, subst}
use mir.Syntax.{Dict}
use denote.Param.Table.{Table}
use denote.Param.Object.{Made}
use denote.Param.Members.{Mut}
use borrow.Pointer.Called.{made_asks, made_tells}
use denote.Param.Callables.{Sure}
use Rattle.std.specs.Prelude.{◌≡◌, IsSome}
use Rattle.std.proofs.Common.{rules}
use Rattle.click_classes.specs.State.{class}
use Rattle.click_classes.specs.Queues.{queue_of}
use Rattle.click_base.specs.declared.class.Class.TheVariants as is
use Rattle.click_classes.specs.declared.state.State.{State}
use Rattle.click_classes.specs.declared.state.State.TheVariants as state

-- what a row states of a call follows from the contract of the boxed function
pub told_row : {A R : Type 0} (T : Table (λ X. Mut X A R) Dict) {at : T.I} {i : T.I} {y : (T.entry i).0.Denot} {x : (T.entry at).0.Denot} → Made (λ j. (T.entry j).0.coded.code) (T.entry at).0.coded.code at i y x → (a : A) (Says : R → Type 0) → (T.entry at).1.pre x a → ((r : R) → (T.entry at).1.post x a r → Says r) → Sure ((T.entry i).1.pre y a) × ((r : R) → (T.entry i).1.post y a r → Says r)
told_row T {at = at} m a Says asks tells = (made_asks T (T.entry at) at refl m a asks, λ r p. tells r (made_tells T (T.entry at) at refl m a r p))

-- a state of class Queue has a queue
pub of_queue : (s : State) → class s ≡ is.Queue → IsSome (queue_of s)
of_queue (state.Queue list drops highest) e = search rules
of_queue _ e = cc

pub of_front_drop_queue : (s : State) → class s ≡ is.FrontDropQueue → IsSome (queue_of s)
of_front_drop_queue (state.FrontDropQueue list drops highest) e = search rules
of_front_drop_queue _ e = cc

-- what a row states of a call follows from the contract of the boxed closure and what it captured
pub told_closure : {A R : Type 0} (T : Table (λ X. Mut X A R) Dict) {at : T.I} {i : T.I} {y : (T.entry i).0.Denot} {x z : (T.entry at).0.Denot} → Made (λ j. (T.entry j).0.coded.code) (T.entry at).0.coded.code at i y x → x ≡ z → (a : A) (Says : R → Type 0) → (T.entry at).1.pre z a → ((r : R) → (T.entry at).1.post z a r → Says r) → Sure ((T.entry i).1.pre y a) × ((r : R) → (T.entry i).1.post y a r → Says r)
told_closure T {at = at} {i = i} {y = y} m e a Says asks tells = told_row T {at = at} {i = i} {y = y} (subst (λ w. Made (λ j. (T.entry j).0.coded.code) (T.entry at).0.coded.code at i y w) e m) a Says asks tells
