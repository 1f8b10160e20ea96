-- The first misuse of all: of a name or of a compound.
use Rattle.std.proofs.Common.{◌≡◌, ◌⊎◌, inl, inr, ◌≤◌, Option, Some, None, refl, arith}
use Rattle.click_text.specs.declared.syntax.Span.{Span}
use Rattle.click_text.specs.declared.syntax.Config.{Config}
use Rattle.click_scopes.specs.Faults.{IsWrong, IsFirstWrong, fault_number}
use Rattle.click_scopes.specs.kept.FirstFault.{IsNameFault, IsCompoundFault, IsLeast, first_of}
use Rattle.click_scopes.specs.Analysis.{IsFirst}
use Rattle.click_scopes.specs.declared.fault.WrongUse.{WrongUse}
use Rattle.click_scopes.specs.declared.fault.WrongUse.TheVariants as kind
use Rattle.click_scopes.specs.declared.first_fault.TokenFault.{TokenFault}
use Rattle.click_scopes.proofs.OfFaults.LeastWrongUse.{least-first_of, least-same}

abbrev wrong-at : Config → TokenFault → Type 0
wrong-at c w = IsWrong c w.kind w.span

either : (c : Config) (w : TokenFault) → IsNameFault c w ⊎ IsCompoundFault c w → wrong-at c w
either c w (inl h) = h.wrong
either c w (inr h) = h.wrong

low-or-high : (k : WrongUse) → (fault_number k ≤ 13) ⊎ (14 ≤ fault_number k)
low-or-high kind.UnknownName = inl (omega arith)
low-or-high kind.DeclaredTwice = inl (omega arith)
low-or-high kind.UnknownClass = inl (omega arith)
low-or-high kind.WrongParameters = inr (omega arith)
low-or-high kind.CompoundPort = inr (omega arith)

parted-by : (c : Config) (w : TokenFault) → wrong-at c w → (fault_number w.kind ≤ 13) ⊎ (14 ≤ fault_number w.kind) → IsNameFault c w ⊎ IsCompoundFault c w
parted-by c w h (inl l) = inl (record { wrong = h; kind = l })
parted-by c w h (inr l) = inr (record { wrong = h; kind = l })

least-is-first : (c : Config) (o : Option TokenFault) → IsLeast (wrong-at c) o → IsFirst c o
least-is-first c None h = λ k s x. h (record { kind = k; span = s }) x
least-is-first c (Some w) h = record { wrong = h.0; first = λ j t x. h.1 (record { kind = j; span = t }) x }

pub first-of-both : (c : Config) (a b : Option TokenFault) → IsLeast (IsNameFault c) a → IsLeast (IsCompoundFault c) b → IsFirst c (first_of a b)
first-of-both c a b h k =
    least-is-first c (first_of a b) (least-same (λ w. IsNameFault c w ⊎ IsCompoundFault c w) (wrong-at c) (first_of a b) (either c)
    (λ w x. parted-by c w x (low-or-high w.kind)) (least-first_of (IsNameFault c) (IsCompoundFault c) a b h k))

number-once : (k j : WrongUse) → fault_number k ≡ fault_number j → k ≡ j
number-once kind.UnknownName kind.UnknownName e = refl
number-once kind.DeclaredTwice kind.DeclaredTwice e = refl
number-once kind.UnknownClass kind.UnknownClass e = refl
number-once kind.WrongParameters kind.WrongParameters e = refl
number-once kind.CompoundPort kind.CompoundPort e = refl
number-once _ _ e = absurd (omega (arith, e))

-- the first misuses of a configuration have the same kind and the same start
pub first-wrong-once : (c : Config) (k j : WrongUse) (s t : Span) → IsFirstWrong c k s → IsFirstWrong c j t → (k ≡ j) × (s.start ≡ t.start)
first-wrong-once c k j s t h g =
    let a = h.first j t g.wrong in
    let b = g.first k s h.wrong in
    (number-once k j (omega (arith, a, b)), omega (arith, a, b))
