-- Texts while they are written: the steps that are left, and the arguments whose values were
-- written before.
use Rattle.std.specs.Prelude.{◌≡◌, ℕ, zero, suc, ◌+◌, ◌≤◌, List, [], ◌∷◌, ◌++◌, length, drop, nat_eq, Bool, ◌&&◌, Some}
use Rattle.std.specs.Map.{lookup}
use Rattle.click_text.specs.declared.syntax.Span.{Span}
use Rattle.click_text.specs.declared.syntax.Config.{Config}
use Rattle.click_text.specs.Spans.{bytes_at}
use Rattle.click_expand.specs.Instances.{PrimitiveElement}
use Rattle.click_expand.specs.kept.KnownInstances.{KnownInstance, AreInstances}
use Rattle.click_expand.specs.kept.ParameterValues.{IsRead, IsOwn}
use Rattle.click_expand.specs.declared.instances.tree.Place.{Place}
use Rattle.click_expand.specs.declared.instances.tree.Instance.{Instance as InstanceKept}
use Rattle.click_expand.specs.declared.texts.parameter_values.Argument.{Argument}
use Rattle.click_expand.specs.declared.texts.parameter_values.UnreadText.{UnreadText}
use Rattle.click_expand.specs.declared.texts.writing.TextStep.{TextStep}
use Rattle.click_expand.specs.declared.texts.writing.TextStep.TheVariants as step
use Rattle.click_expand.specs.declared.texts.text_buffer.TextBuffer.{TextBuffer}

abbrev pub same_argument : Argument → Argument → Bool
same_argument a b = nat_eq a.within b.within && nat_eq a.place b.place

-- the value of the argument was written at this span
pub record IsArgumentKept (c : Config) (instances : List InstanceKept) (text : List ℕ) (a : Argument) (s : Span) : Type 0 where
  pub ordered : s.start ≤ s.end
  pub within : s.end ≤ length text
  pub value : (places : List Place) (known : List KnownInstance) (primitive_elements : List PrimitiveElement) → AreInstances c instances places known primitive_elements → IsOwn known a (bytes_at text s)

-- this holds for each argument in the buffer
abbrev pub AreKept : Config → List InstanceKept → TextBuffer → Type 0
AreKept c instances b = (a : Argument) (s : Span) → lookup (same_argument a) b.values.entries ≡ Some s → IsArgumentKept c instances b.text.items a s

-- the step leads from the text before it to the text after it
abbrev pub IsTextStep : Config → List KnownInstance → TextStep → List ℕ → List ℕ → Type 0
IsTextStep c known (step.Read r) before after = (p : List ℕ) × (after ≡ before ++ p) × IsRead c known r p
IsTextStep c known (step.Keep a start) before after = (after ≡ before) × (start ≤ length before) × IsOwn known a (drop start before)

-- These steps lead from the text so far to the whole text. The last step of the list is done first.
abbrev pub AreSteps : Config → List KnownInstance → List TextStep → List ℕ → List ℕ → Type 0
AreSteps c known [] before whole = whole ≡ before
AreSteps c known (s ∷ above) before whole = (between : List ℕ) × AreSteps c known above before between × IsTextStep c known s between whole

-- the arguments that are still to be recorded begin within the first n bytes
abbrev pub BeginWithin : ℕ → List TextStep → Type 0
BeginWithin n [] = Unit {0}
BeginWithin n (step.Read r ∷ steps) = BeginWithin n steps
BeginWithin n (step.Keep a start ∷ steps) = (start ≤ n) × BeginWithin n steps

-- q is what is left of r after its first n bytes
abbrev pub IsRest : UnreadText → ℕ → UnreadText → Type 0
IsRest r n q = (q.within ≡ r.within) × (q.rest.now ≡ drop n r.rest.now)

-- The cost of a text with a cost of p for each byte.
abbrev pub costs : ℕ → List ℕ → ℕ
costs p [] = p
costs p (b ∷ t) = p + costs p t

-- the cost of a byte in an instance: more than any text in the instances before it, and one step to
-- record the argument
abbrev pub price : List ℕ → ℕ → ℕ
price text zero = 1
price text (suc u) = 2 + costs (price text u) text

abbrev pub step_weight : List ℕ → TextStep → ℕ
step_weight text (step.Read r) = costs (price text r.within) r.rest.now
step_weight text (step.Keep a start) = 1

-- the total weight of the steps, which decreases with each step that is done
abbrev pub weight : List ℕ → List TextStep → ℕ
weight text [] = 0
weight text (s ∷ steps) = step_weight text s + weight text steps
