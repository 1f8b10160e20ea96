-- The values of parameters, in the form in which the code finds them.
use Rattle.std.specs.Prelude.{◌≡◌, ℕ, List, [], ◌∷◌, slice_get, Option, Some, None}
use Rattle.click_text.specs.declared.syntax.Config.{Config}
use Rattle.click_expand.specs.Parameters.{Bindings, IsReplaced}
use Rattle.click_expand.specs.kept.KnownInstances.{KnownInstance}
use Rattle.click_expand.specs.declared.texts.parameter_values.UnreadText.{UnreadText}
use Rattle.click_expand.specs.declared.texts.parameter_values.Argument.{Argument}
use Rattle.click_expand.specs.declared.texts.parameter_values.ParameterValue.{ParameterValue}

-- `out` is the unread text with its parameters replaced by their values in its instance
abbrev pub IsRead : Config → List KnownInstance → UnreadText → List ℕ → Type 0
IsRead c known r out = (x : KnownInstance) × (slice_get known r.within ≡ Some x) × IsReplaced c x.bindings (x.scope ∷ x.enclosing) r.rest.now out

-- the arguments of the body of an instance
abbrev pub own_arguments : Bindings → List (List ℕ)
own_arguments [] = []
own_arguments (b ∷ bindings) = b.1

-- v is the argument, with its parameters replaced
abbrev pub IsOwn : List KnownInstance → Argument → List ℕ → Type 0
IsOwn known a v = (x : KnownInstance) × (slice_get known a.within ≡ Some x) × (slice_get (own_arguments x.bindings) a.place ≡ Some v)

-- the value of a parameter is the text that is read there, and is that argument
abbrev pub IsValue : Config → List KnownInstance → Option ParameterValue → Option (List ℕ) → Type 0
IsValue c known None o = o ≡ None
IsValue c known (Some r) o = (v : List ℕ) × (o ≡ Some v) × IsRead c known r.reading v × IsOwn known r.argument v
