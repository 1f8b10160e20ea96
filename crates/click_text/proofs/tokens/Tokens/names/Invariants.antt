use Rattle.std.proofs.Common.{◌≡◌, ℕ, ◌≤◌, [], ◌∷◌, List, length}
use Rattle.click_text.specs.declared.syntax.Statement.{Statement}
use Rattle.click_text.specs.declared.syntax.Body.{Body}
use Rattle.click_text.specs.kept.ParserStates.{Place, outcome, name_read}
use Rattle.click_text.proofs.tokens.Tokens.names.Given as goal

-- the run after the first name goes on like one after the names so far
abbrev pub invariant-names : goal.invariant-names
invariant-names l = record {
  same : (n : ℕ) (bs : List Body) (p : Place) (ss : List Statement) → outcome n (name_read bs p ss (l.fn.first ∷ [])) l.fn.self.items.now
      ≡ outcome n (name_read bs p ss l.names) l.self.items.now;
  fewer : length l.self.items.now ≤ length l.fn.self.items.now;
}

abbrev pub decreases-names : goal.decreases-names
decreases-names l = length l.self.items.now
