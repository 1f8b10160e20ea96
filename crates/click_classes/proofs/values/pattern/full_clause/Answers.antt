use Rattle.std.proofs.Common.{◌≡◌, ℕ, length, take, replicate, inr, arith}
use Rattle.std.proofs.lemmas.List.{take-replicate}
use Rattle.click_classes.proofs.OfPatterns.Clauses.{clause_of-long}
use Rattle.click_classes.proofs.values.pattern.full_clause.Goals as goal

pub returns-then-digits-gt-MAX_PATTERN_DIGITS : goal.returns-then-digits-gt-MAX_PATTERN_DIGITS
returns-then-digits-gt-MAX_PATTERN_DIGITS c = inr (clause_of-long c.args.negated c.args.offset c.args.digits.now _ (omega arith))

pub returns : goal.returns
returns c =
    let full : take {A = ℕ} (length c.args.digits.now) (replicate 128 102) ≡ replicate (length c.args.digits.now) 102 = take-replicate (length c.args.digits.now) 128 102 (omega arith) in
    rw (← full) c.clause_of.ensures
