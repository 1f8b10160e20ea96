-- How the code reads the beginning of a text.
use Rattle.std.specs.Prelude.{◌≡◌, ℕ, ◌<◌, ◌≤◌, List, ◌∷◌, ◌++◌, length, take, drop, slice_get, Some}
use Rattle.click_text.specs.declared.syntax.Config.{Config}
use Rattle.click_expand.specs.Parameters.{IsReplaced}
use Rattle.click_expand.specs.kept.KnownInstances.{KnownInstance}
use Rattle.click_expand.specs.kept.ParameterValues.{IsRead, IsOwn}
use Rattle.click_expand.specs.declared.texts.writing.TextPart.{TextPart}
use Rattle.click_expand.specs.declared.texts.writing.TextPart.TheVariants as part

-- `out` are the plain bytes with their parameters replaced by their values in instance u
abbrev pub IsReadAt : Config → List KnownInstance → ℕ → List ℕ → List ℕ → Type 0
IsReadAt c known u bytes out = (x : KnownInstance) × (slice_get known u ≡ Some x) × IsReplaced c x.bindings (x.scope ∷ x.enclosing) bytes out

-- the whole result is the part at the beginning, followed by the result of the rest
abbrev pub Parts : Config → List KnownInstance → ℕ → List ℕ → List ℕ → TextPart → Type 0
Parts c known u bytes whole (part.Bytes n) = (b : List ℕ) × (whole ≡ take n bytes ++ b) × IsReadAt c known u (drop n bytes) b
Parts c known u bytes whole (part.Value n v) =
    (a : List ℕ) × (b : List ℕ) × (whole ≡ a ++ b) × IsRead c known v.reading a × IsOwn known v.argument a × IsReadAt c known u (drop n bytes) b

-- the part has at least one byte, and a value is read in an earlier instance
abbrev pub IsShorter : List ℕ → ℕ → List ℕ → TextPart → Type 0
IsShorter text u bytes (part.Bytes n) = (0 < n) × (n ≤ length bytes)
IsShorter text u bytes (part.Value n v) = (0 < n) × (n ≤ length bytes) × (v.reading.within < u) × (length v.reading.rest.now ≤ length text)
