-- How bodies are nested: a body comes after all bodies inside it.
use Rattle.std.specs.Prelude.{ℕ, ◌+◌, ◌<◌, List, [], ◌∷◌, ◌++◌, length, slice_get}
use Rattle.click_text.specs.declared.syntax.Statement.{Statement}
use Rattle.click_text.specs.declared.syntax.Body.{Body}
use Rattle.click_text.specs.declared.syntax.Config.{Config}
use Rattle.click_scopes.specs.Scopes.{bodies_in, body_statements}

-- the bodies in these statements that are in no body inside them
abbrev pub direct : List Statement → List ℕ
direct [] = []
direct (s ∷ ss) = bodies_in s ++ direct ss

-- `Nests bodies from bs to`: the bodies bs and all bodies inside them are exactly those with the
-- indices `from` up to but not including `to`.
pub data Nests (bodies : List Body) : ℕ → List ℕ → ℕ → Type 0 where
  no_bodies : (at : ℕ) → Nests bodies at [] at
  next_body : (from b to : ℕ) (bs : List ℕ) → b < length bodies → Nests bodies from (direct (body_statements (slice_get bodies b))) b →
      Nests bodies (b + 1) bs to → Nests bodies from (b ∷ bs) to

-- the bodies of a configuration are nested: each occurs exactly once
abbrev pub IsNested : Config → Type 0
IsNested c = Nests c.bodies 0 (direct c.statements) (length c.bodies)
