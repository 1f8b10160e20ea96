-- From a sound configuration to its flat form or its fault.
use Rattle.std.proofs.Common.{◌≡◌, ℕ, ◌<◌, ◌≤◌, List, map, length, Option, Some, None, sym, ◌∙◌, subst}
use Rattle.std.specs.Prelude.{Contains, MatchOption}
use Rattle.click_text.specs.declared.syntax.Config.{Config}
use Rattle.click_expand.specs.Instances.{PrimitiveElement}
use Rattle.click_expand.specs.Flat.{most_text, most_connections, text_size, flat_element, AreOrdered, Joins, AreConnections, Exceeds, many_connections}
use Rattle.click_expand.specs.kept.Answered.{IsExpanded}
use Rattle.click_expand.specs.declared.flat.FlatElement.{FlatElement}
use Rattle.click_expand.specs.declared.flat.Connection.{Connection}

pub match-none : {X : Type 0} (o : Option X) (P : Type 0) (Q : X → Type 0) → o ≡ None → MatchOption o P Q → P
match-none o P Q e h = subst (λ x. MatchOption x P Q) e h

pub match-some : {X : Type 0} (o : Option X) (x : X) (P : Type 0) (Q : X → Type 0) → o ≡ Some x → MatchOption o P Q → Q x
match-some o x P Q e h = subst (λ y. MatchOption y P Q) e h

pub more-connections : (c : Config) (primitive_elements : List PrimitiveElement) (paths : ℕ) → (ks : List Connection) × AreOrdered ks × ((k : Connection) → Contains ks k → Joins c primitive_elements k) × (most_connections < length ks) →
    Exceeds c primitive_elements paths
more-connections c primitive_elements paths h = many_connections h.0 h.1 h.2 h.3

pub joined-up : (c : Config) (primitive_elements : List PrimitiveElement) (paths : ℕ) (es : List FlatElement) (ks : List Connection) (es' : List FlatElement) (ks' : List Connection) → es' ≡ es → ks' ≡ ks →
    (es ≡ map flat_element primitive_elements) × (text_size primitive_elements ≤ most_text) → AreConnections c primitive_elements ks × (length ks ≤ most_connections) → length primitive_elements ≤ 4096 → paths ≤ 16384 →
    IsExpanded c primitive_elements paths (record { elements = es'; connections = ks' })
joined-up c primitive_elements paths es ks es' ks' e k h f few short = record {
  elements = e ∙ h.0;
  connections = subst (AreConnections c primitive_elements) (sym k) f.0;
  limits = record { elements = few; all_paths = short; connections = subst (λ x. length x ≤ most_connections) (sym k) f.1; text = h.1 };
}
