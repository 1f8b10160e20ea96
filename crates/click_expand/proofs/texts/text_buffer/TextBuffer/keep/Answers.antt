use Rattle.std.proofs.Common.{◌≡◌, ℕ, length, ◌&&◌, nat_eq, if◌then◌else◌, Some, ap, ◌∙◌, arith}
use Rattle.std.specs.Map.{lookup}
use Rattle.std.proofs.lemmas.Bool.Decides.{nat_tests}
use Rattle.click_text.specs.declared.syntax.Span.{Span}
use Rattle.click_expand.specs.declared.texts.parameter_values.Argument.{Argument}
use Rattle.click_expand.specs.kept.Buffered.{same_argument}
use Rattle.click_expand.proofs.texts.text_buffer.TextBuffer.keep.Goals as goal

swap : (m n : ℕ) → nat_eq m n ≡ nat_eq n m
swap m n = grind (arith, nat_tests)

swap-argument : (a b : Argument) → same_argument a b ≡ same_argument b a
swap-argument a b = ap (λ t. t && nat_eq a.place b.place) (swap a.within b.within) ∙ ap (λ t. nat_eq b.within a.within && t) (swap a.place b.place)

pub returns-clause-kept : goal.returns-clause-kept
returns-clause-kept c = λ a.
    let l = c.len-end.ensures in
    let e : c.len-end.result ≡ length c.args.self.now.text.items = omega (arith, l) in
    let put : ℕ → Span = λ n. record { start = c.args.start; end = n } in
    let was = lookup (same_argument a) c.args.self.now.values.entries in
    c.in_ok-insert.ensures.updates.0 a ∙ ap (λ t. if t then Some (put c.len-end.result) else was) (swap-argument c.args.argument a) ∙ ap (λ n. if same_argument a c.args.argument then Some (put n) else was) e
