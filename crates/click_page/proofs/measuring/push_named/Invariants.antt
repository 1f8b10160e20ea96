use Rattle.std.proofs.Common.{◌≡◌, ◌++◌, drop, map}
use Rattle.click_page.specs.Metrics.{samples_named}
use Rattle.click_page.proofs.measuring.push_named.Given as goal

abbrev pub invariant-loop-name : goal.invariant-loop-name
invariant-loop-name l =
    l.samples ++ samples_named l.element (map (λ n. n.now) (drop l.name-index l.names)) ≡ l.initial.samples ++ samples_named l.element (map (λ n. n.now) l.names)
