use Rattle.std.proofs.Common.{◌≡◌, drop}
use Rattle.std.specs.List.{list_any}
use Rattle.std.specs.Str.{bytes_eq}
use Rattle.click_handlers.proofs.names.is_among.Given as goal

abbrev pub invariant-loop-other : goal.invariant-loop-other
invariant-loop-other l = list_any (λ n. bytes_eq n.now l.fn.name) (drop l.other-index l.names) ≡ list_any (λ n. bytes_eq n.now l.fn.name) l.names
