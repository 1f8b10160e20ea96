-- Steps that may find a fault, and calls that may run out of memory.
use Rattle.std.specs.Prelude.{◌≡◌, ◌⊎◌, List, [], ◌∷◌, Result, Ok, Err}
use Rattle.click_classes.specs.declared.fault.ArgFault.{ArgFault}
use Rattle.click_classes.specs.declared.fault.ArgFault.TheVariants as fault

infixl 10 ◌>>=◌
-- a step that may find a fault, and the next step
abbrev pub ◌>>=◌ : {A B : Type 0} → Result A ArgFault → (A → Result B ArgFault) → Result B ArgFault
(Ok a) >>= f = f a
(Err e) >>= f = Err e

-- the results of `read` for each part in order, or the first fault
abbrev pub each : {A B : Type 0} → (A → Result B ArgFault) → List A → Result (List B) ArgFault
each read [] = Ok []
each read (a ∷ as') = read a >>= λ b. each read as' >>= λ bs. Ok (b ∷ bs)

-- P holds of the result, or the call ran out of memory
abbrev pub OrNoMemory : {A : Type 0} → (Result A ArgFault → Type 0) → Result A ArgFault → Type 0
OrNoMemory P (Ok a) = P (Ok a)
OrNoMemory P (Err f) = (f ≡ fault.NoMemory) ⊎ P (Err f)
