-- The flat form of a sound configuration, or its refusal.
use Rattle.std.proofs.Common.{◌≡◌, inl, inr, ℕ, ◌+◌, ◌<◌, ◌≤◌, List, length, Some, None, refl, sym, ◌∙◌, subst, arith}
use Rattle.std.specs.Prelude.{min}
use Rattle.click_text.specs.declared.syntax.Config.{Config}
use Rattle.click_scopes.specs.kept.Nesting.{IsNested}
use Rattle.click_expand.specs.Instances.{PrimitiveElement, PrimitiveElementsOf}
use Rattle.click_expand.specs.kept.Sizes.{IsSizeOf}
use Rattle.click_expand.specs.Flat.{most_elements, most_paths, Exceeds, many_elements, many_paths, Meant, IsFlat, IsFlatFault, wrong, too_many, repeated, broken, no_memory, IsMemoryOr}
use Rattle.click_scopes.specs.Faults.{IsFaultless}
use Rattle.click_scopes.specs.Analysis.{IsScopeFault}
use Rattle.click_expand.specs.kept.Answered.{IsExpanded, IsRefused, IsRefusedOf, refusal_for, fault_for}
use Rattle.click_expand.specs.declared.fault.FaultKind.TheVariants as kind
use Rattle.click_scopes.specs.declared.fault.WrongUse.TheVariants as wrong_use
use Rattle.click_expand.specs.declared.flat.Flat.{Flat}
use Rattle.click_expand.specs.declared.flattening.Refusal.{Refusal}
use Rattle.click_expand.specs.declared.flattening.Refusal.TheVariants as refused
use Rattle.click_expand.specs.declared.instances.sizes.Size.{Size}
use Rattle.click_scopes.specs.declared.analysis.ScopeFault.{ScopeFault}
use Rattle.click_scopes.specs.declared.analysis.ScopeFault.TheVariants as scope_fault
use Rattle.click_expand.proofs.OfUniqueness.OneElementList.{primitive_elements-exist}
use Rattle.click_expand.proofs.OfUniqueness.OneFlatForm.{flat-no-fault}

min-over : (n k : ℕ) → k < min n (k + 1) → k < n
min-over n k l = omega (arith, l)

min-under : (n k : ℕ) → min n (k + 1) ≤ k → min n (k + 1) ≡ n
min-under n k l = omega (arith, l)

pub too-many-elements : (c : Config) → IsNested c → IsFaultless c → (size : Size) → IsSizeOf c size → most_elements < size.elements → IsRefused c refused.TooMany
too-many-elements c nested sound size h l =
    let e = primitive_elements-exist c nested sound in
    too_many e.0 e.1 sound e.2 (many_elements (min-over (length e.0) most_elements (subst (λ n. most_elements < n) (h e.0 e.1 e.2).elements l)))

pub too-many-paths : (c : Config) → IsNested c → IsFaultless c → (size : Size) → IsSizeOf c size → most_paths < size.paths → IsRefused c refused.TooMany
too-many-paths c nested sound size h l =
    let e = primitive_elements-exist c nested sound in
    too_many e.0 e.1 sound e.2 (many_paths (min-over e.1 most_paths (subst (λ n. most_paths < n) (h e.0 e.1 e.2).all_paths l)))

-- the flat elements of a configuration whose size is within the limits
pub record IsCounted (c : Config) (size : Size) : Type 0 where
  pub primitive_elements : List PrimitiveElement
  pub are : PrimitiveElementsOf c primitive_elements size.paths
  pub few : length primitive_elements ≤ most_elements

pub counted : (c : Config) → IsNested c → IsFaultless c → (size : Size) → IsSizeOf c size → size.elements ≤ most_elements → size.paths ≤ most_paths → IsCounted c size
counted c nested sound size h l k =
    let e = primitive_elements-exist c nested sound in
    let s = h e.0 e.1 e.2 in
    let n : size.paths ≡ e.1 = s.all_paths ∙ min-under e.1 most_paths (subst (λ x. x ≤ most_paths) s.all_paths k) in
    let m : min (length e.0) (most_elements + 1) ≡ length e.0 = min-under (length e.0) most_elements (subst (λ x. x ≤ most_elements) s.elements l) in
    record { primitive_elements = e.0; are = subst (PrimitiveElementsOf c e.0) (sym n) e.2; few = subst (λ x. x ≤ most_elements) (s.elements ∙ m) l }

pub too-many : (c : Config) (primitive_elements : List PrimitiveElement) (paths : ℕ) → IsFaultless c → PrimitiveElementsOf c primitive_elements paths → Exceeds c primitive_elements paths → IsRefused c refused.TooMany
too-many c primitive_elements paths sound l e = too_many primitive_elements paths sound l e

meant : (c : Config) (primitive_elements : List PrimitiveElement) (paths : ℕ) (f : Flat) → IsFaultless c → PrimitiveElementsOf c primitive_elements paths → IsExpanded c primitive_elements paths f → Meant c primitive_elements paths f.connections
meant c primitive_elements paths f sound l e = record { sound = sound; elements = l; connections = e.connections }

pub answered : (c : Config) (primitive_elements : List PrimitiveElement) (paths : ℕ) (f : Flat) → IsFaultless c → PrimitiveElementsOf c primitive_elements paths → IsExpanded c primitive_elements paths f → IsRefusedOf primitive_elements None → IsFlat c f
answered c primitive_elements paths f sound l e h = record {
  primitive_elements = primitive_elements;
  paths = paths;
  meant = meant c primitive_elements paths f sound l e;
  limits = e.limits;
  distinct = h.0;
  texts = h.1;
  elements = e.elements;
}

pub refused-by : (c : Config) (primitive_elements : List PrimitiveElement) (paths : ℕ) (f : Flat) → IsFaultless c → PrimitiveElementsOf c primitive_elements paths → IsExpanded c primitive_elements paths f → (why : Refusal) →
    IsRefusedOf primitive_elements (Some why) → IsRefused c why
refused-by c primitive_elements paths f sound l e refused.NoMemory h = absurd h
refused-by c primitive_elements paths f sound l e refused.TooMany h = absurd h
refused-by c primitive_elements paths f sound l e (refused.At k s) h =
    let r = h.1 in
    subst (λ j. IsRefused c (refused.At j s)) (sym h.0)
    (subst (λ t. IsRefused c (refused.At (kind.Use wrong_use.DeclaredTwice) t)) (sym r.6)
    (repeated primitive_elements r.0 r.1 r.2 paths f.connections (meant c primitive_elements paths f sound l e) e.limits r.3 r.4 r.5))
refused-by c primitive_elements paths f sound l e (refused.Broken name) h =
    let r = h.1 in
    subst (λ n. IsRefused c (refused.Broken n)) (sym r.6)
    (broken primitive_elements r.0 r.1 r.2 paths f.connections (meant c primitive_elements paths f sound l e) e.limits h.0 r.3 r.4 r.5)

pub first-refused : (c : Config) (fault : ScopeFault) → IsScopeFault c fault → IsRefused c (refusal_for fault)
first-refused c scope_fault.NoMemory h = tt
first-refused c (scope_fault.Wrong w) h = wrong w.kind w.span h

pub told : (c : Config) (why : Refusal) → IsRefused c why → IsMemoryOr (fault_for why) (IsFlatFault c (fault_for why))
told c refused.NoMemory h = inl refl
told c (refused.At k s) h = inr h
told c refused.TooMany h = inr h
told c (refused.Broken name) h = inr h

-- the only refusal of a configuration with a flat form is out of memory
pub refused-for-memory : (c : Config) → IsNested c → (f : Flat) → IsFlat c f → (why : Refusal) → IsRefused c why → fault_for why ≡ no_memory
refused-for-memory c nested f is refused.NoMemory h = refl
refused-for-memory c nested f is (refused.At k s) h = absurd (flat-no-fault c nested f (fault_for (refused.At k s)) is h)
refused-for-memory c nested f is refused.TooMany h = absurd (flat-no-fault c nested f (fault_for refused.TooMany) is h)
refused-for-memory c nested f is (refused.Broken name) h = absurd (flat-no-fault c nested f (fault_for (refused.Broken name)) is h)
