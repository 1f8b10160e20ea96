-- Which ports are push and which are pull (TOCS 2000).
use Rattle.std.specs.Prelude.{◌≡◌, ℕ, List}
use Rattle.click_classes.specs.declared.ports.Code.{Code}
use Rattle.click_classes.specs.declared.ports.Code.TheVariants.{Push, Pull}
use Rattle.click_expand.specs.declared.flat.Connection.{Connection}
use Rattle.click_ports.specs.declared.port.Port.{Port}
use Rattle.click_ports.specs.declared.shape.Shape.{Shape}
use Rattle.click_ports.specs.Ports.{input, output}
use Rattle.click_ports.specs.Links.{code_at, IsAgnostic, IsFixed, Linked}

-- Port p reaches port q, which is push or pull by its class. Either p is q, or a chain of `Linked`
-- steps leads from p to q, with only agnostic ports between them.
pub data Reaches (ss : List Shape) (cs : List Connection) : Port → Port → Type 0 where
  itself : (p : Port) → IsFixed ss p → Reaches ss cs p p
  linked : (p q : Port) → Linked ss cs p q → IsFixed ss q → Reaches ss cs p q
  further : (p q r : Port) → Linked ss cs p q → IsAgnostic ss q → Reaches ss cs q r → Reaches ss cs p r

-- Port p reaches a port whose code by its class (push or pull) is k.
abbrev pub Meets : List Shape → List Connection → Code → Port → Type 0
Meets ss cs k p = (q : Port) × Reaches ss cs p q × (code_at ss q ≡ k)

-- A port is resolved to pull if it reaches a port that is pull by its class, and to push otherwise.
abbrev pub IsPull : List Shape → List Connection → Port → Type 0
IsPull ss cs p = Meets ss cs Pull p

abbrev pub IsPush : List Shape → List Connection → Port → Type 0
IsPush ss cs p = IsPull ss cs p → ⊥

-- A port is mixed if it reaches both a port that is push and one that is pull by its class.
abbrev pub IsMixed : List Shape → List Connection → Port → Type 0
IsMixed ss cs p = Meets ss cs Push p × Meets ss cs Pull p

-- A push output or a pull input. `AllSingle` requires exactly one connection of it.
pub data IsSingle (ss : List Shape) (cs : List Connection) : Port → Type 0 where
  push_output : (e n : ℕ) → IsPush ss cs (output e n) → IsSingle ss cs (output e n)
  pull_input : (e n : ℕ) → IsPull ss cs (input e n) → IsSingle ss cs (input e n)
