use Rattle.std.proofs.Common.{◌≡◌, drop, position}
use Rattle.std.specs.List.{position_from}
use Rattle.std.specs.Str.{bytes_eq}
use Rattle.click_text.specs.Spans.{bytes_at}
use Rattle.click_expand.proofs.texts.parameters.formal_place.Given as goal

abbrev pub invariant-loop-place : goal.invariant-loop-place
invariant-loop-place l =
    position (λ f. bytes_eq (drop 1 (bytes_at l.text f)) l.name) l.formals ≡ position_from (λ f. bytes_eq (drop 1 (bytes_at l.text f)) l.name) l.place (drop l.place l.formals)
