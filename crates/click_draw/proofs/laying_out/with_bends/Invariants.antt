use Rattle.std.proofs.Common.{◌≡◌, ℕ, ◌+◌, ◌<◌, ◌≤◌, length, get_or, All}
use Rattle.click_draw.proofs.laying_out.with_bends.Given as goal

abbrev pub invariant-loop-bend : goal.invariant-loop-bend
invariant-loop-bend l = record {
  all : length l.widths.items ≡ length l.initial.widths.items + l._bend;
  kept : (n : ℕ) → n < length l.initial.widths.items → get_or l.widths.items n 0 ≡ get_or l.initial.widths.items n 0;
  small : All (λ (w : ℕ). w ≤ 32788) l.widths.items;
}
