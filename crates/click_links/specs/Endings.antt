-- What follows a sweep of the forwarder thread, and when the thread may end.
use Rattle.std.specs.Prelude.{◌≡◌, ℕ, ◌⊎◌, Bool, true, false, Option, Some, None, Err, IsNone, IsSomeAnd, IsOk, IsOkAnd, if◌then◌else◌}
use Rattle.std.specs.List.{All}
use Rattle.std.specs.Result.{result_err}
use Rattle.click_desk.specs.declared.logged_router.DeskFault.{DeskFault}
use Rattle.click_desk.specs.declared.logged_router.DeskFault.TheVariants as fault
use Rattle.click_links.specs.declared.cycles.AfterSweep.{AfterSweep}
use Rattle.click_links.specs.declared.cycles.AfterSweep.TheVariants.{Sweep, Sleep, End}
use Rattle.click_links.specs.declared.cycles.Finding.{Finding}
use Rattle.click_links.specs.declared.cycles.Finding.TheVariants.{Held, Work, NoWork, NoMemory, HistoryFull}
use Rattle.click_links.specs.declared.sharing.SharedSweep.{SharedSweep}
use Rattle.click_links.specs.declared.sweeping.SweepResult.{SweepResult}
use Rattle.click_links.specs.Turns.{IsIdleTurn}

-- The flags may show that the run is over: a stop was requested, and all receivers have ended.
abbrev pub IsOver : {F : Type 0} → (F → Bool → Type 0) → F → F → Type 0
IsOver may_show stop ended = may_show stop true × may_show ended true

-- The flags may show that the run is not over: no stop was requested, or a receiver has not ended.
abbrev pub IsNotOver : {F : Type 0} → (F → Bool → Type 0) → F → F → Type 0
IsNotOver may_show stop ended = may_show stop false ⊎ may_show ended false

-- The sweep found no work: each device turn was idle, and no Round found work.
abbrev pub IsIdleSweep : SweepResult → Type 0
IsIdleSweep s = All IsIdleTurn s.turns.items × (s.rounds ≡ 0)

-- No work is left: the sweep found none, and no other thread has work to hand over.
abbrev pub LeavesNoWork : SharedSweep → Type 0
LeavesNoWork made = IsOkAnd made.swept IsIdleSweep × (made.contended ≡ false)

-- What the forwarder thread found, if this is its sweep, or if it made none.
abbrev pub Finds : Option SharedSweep → Finding → Type 0
Finds made Held = IsNone made
Finds made Work = IsSomeAnd made (λ m. IsOk m.swept × ¬ LeavesNoWork m)
Finds made NoWork = IsSomeAnd made LeavesNoWork
Finds made NoMemory = IsSomeAnd made (λ m. m.swept ≡ Err fault.NoMemory)
Finds made HistoryFull = IsSomeAnd made (λ m. m.swept ≡ Err fault.HistoryFull)

-- What follows a sweep: `over` if the run was over before it, `spent` if no further final cycle is
-- allowed.
abbrev pub follows : Finding → Bool → Bool → AfterSweep
follows Held over spent = Sleep
follows Work over false = Sweep
follows Work false true = Sleep
follows Work true true = End
follows NoWork false spent = Sleep
follows NoWork true spent = End
follows NoMemory false spent = Sleep
follows NoMemory true spent = End
follows HistoryFull over spent = End

-- 1 if this holds, otherwise 0.
abbrev pub count_if : Bool → ℕ
count_if b = if b then 1 else 0

-- The fault with which a sweep failed, if one was made and failed.
abbrev pub fault_in : Option SharedSweep → Option DeskFault
fault_in None = None
fault_in (Some m) = result_err m.swept
