use Rattle.std.proofs.Common.{◌≡◌, ℕ, ◌≤◌, List, length}
use Rattle.click_text.specs.declared.syntax.Span.{Span}
use Rattle.click_text.specs.declared.syntax.Body.{Body}
use Rattle.click_text.specs.kept.ParserStates.{Use, outcome, body_opened, formal_wanted}
use Rattle.click_text.proofs.tokens.Tokens.formals.Given as goal

-- the run after the opening brace goes on like one after the parameters so far
abbrev pub invariant-formals : goal.invariant-formals
invariant-formals l = record {
  same : (n : ℕ) (bs : List Body) (a : Span) (u : Use) → outcome n (body_opened bs a u) l.fn.self.items.now
      ≡ outcome n (formal_wanted bs a u l.formals) l.self.items.now;
  fewer : length l.self.items.now ≤ length l.fn.self.items.now;
}

abbrev pub decreases-formals : goal.decreases-formals
decreases-formals l = length l.self.items.now
