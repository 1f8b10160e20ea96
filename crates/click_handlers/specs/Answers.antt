-- The contract that the call of each handler satisfies.
use Rattle.std.specs.Prelude.{◌≡◌, ◌≢◌, ℕ, List, Bool, true, Result, Ok, Err, Vec, codes}
use Rattle.std.specs.Str.{bytes_eq}
use Rattle.std.specs.Result.{ForOk, ForErr}
use Rattle.std.specs.Option.{ForSome, ForNone}
use Rattle.std.specs.Borrow.{Bor}
use Rattle.std.specs.declared.alloc.Global.{Global}
use Rattle.click_classes.specs.State.{class}
use Rattle.click_base.specs.declared.class.Class.{Class}
use Rattle.click_engine.specs.declared.run_state.Element.{Element}
use Rattle.click_handlers.specs.Reads.{read_value}
use Rattle.click_handlers.specs.Writes.{write_value}
use Rattle.click_handlers.specs.declared.fault.HandlerFault.{HandlerFault}
use Rattle.click_handlers.specs.declared.fault.HandlerFault.TheVariants as fault
use Rattle.click_handlers.specs.declared.written.Written.{Written}

-- the text of a fault, as a reply has it
abbrev pub fault_text : HandlerFault → List ℕ
fault_text fault.BadNumber = codes "not a number"
fault_text fault.OutOfRange = codes "out of range"
fault_text fault.BadFlag = codes "not a truth value"
fault_text fault.BadAddress = codes "not an address"
fault_text fault.NoMemory = codes "out of memory"

-- the answer is this value, or out of memory
abbrev pub IsReadAnswer : Result (List ℕ) HandlerFault → Result (Vec ℕ Global) HandlerFault → Type 0
IsReadAnswer value answer = ForOk answer (λ bytes. value ≡ Ok bytes.items) × ForErr answer (λ e. e ≢ fault.NoMemory → value ≡ Err e)

-- whether a write of the handler with this name may allocate: only that of a queue's capacity does
abbrev pub takes_room : List ℕ → Bool
takes_room handler = bytes_eq handler (codes "capacity")

-- the fault is that of the value, or out of memory if the write may allocate
abbrev pub IsWhy : Bool → Result Element HandlerFault → HandlerFault → Type 0
IsWhy room value e = (e ≢ fault.NoMemory → value ≡ Err e) × (e ≡ fault.NoMemory → room ≡ true)

-- the element is the new one, or it is the old one and there is a fault
abbrev pub IsWritten : Bool → Element → Result Element HandlerFault → Written → Type 0
IsWritten room old value written = ForNone written.fault (value ≡ Ok written.element) × ForSome written.fault (λ e. (written.element ≡ old) × IsWhy room value e)

-- the answer to a write of the handler with this name
abbrev pub IsWriteAnswer : List ℕ → Element → List ℕ → Written → Type 0
IsWriteAnswer handler old text written = IsWritten (takes_room handler) old (write_value handler old text) written

-- a call can be made with every element of the class, and returns the value of a read of the
-- handler, or fails with out of memory
abbrev pub AnswersReads : (Global → Bor Element → Bor (List ℕ) → Type 0) → (Global → Bor Element → Bor (List ℕ) → Result (Vec ℕ Global) HandlerFault → Type 0) → Class → List ℕ → Type 0
AnswersReads may gives of handler = (alloc : Global) (element : Bor Element) (text : Bor (List ℕ)) → class element.now.state ≡ of
    → may alloc element text × ((answer : _) → gives alloc element text answer → IsReadAnswer (read_value handler element.now text.now) answer)

-- A call can be made with every element of the class. It returns the element after a write of the
-- handler, or fails with out of memory and returns the same element.
abbrev pub AnswersWrites : (Global → Element → Bor (List ℕ) → Type 0) → (Global → Element → Bor (List ℕ) → Written → Type 0) → Class → List ℕ → Type 0
AnswersWrites may gives of handler = (alloc : Global) (element : Element) (text : Bor (List ℕ)) → class element.state ≡ of
    → may alloc element text × ((written : _) → gives alloc element text written → IsWriteAnswer handler element text.now written)
