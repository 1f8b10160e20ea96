use Rattle.std.proofs.Common.{◌≡◌, ℕ, ◌+◌, ◌<◌, ◌≤◌, List, ◌++◌, length, reverse, true, cond}
use Rattle.click_filter.specs.declared.pattern.Node.{Node}
use Rattle.click_filter.specs.Trees.{Tree, truth, tests, flat}
use Rattle.click_filter.specs.kept.Steps.{value, forward}
use Rattle.click_filter.proofs.building.+add_part.Given as goal

abbrev pub decreases-add_part : goal.decreases-add_part
decreases-add_part l = length l.nodes.now.items

abbrev pub invariant-parts : goal.invariant-parts
invariant-parts l = let old = reverse l.fn.steps.items in let new = reverse l.steps.items in record {
  few : length l.steps.items ≤ 4096;
  forward : forward new ≡ true;
  at_yes : l.yes < length l.steps.items + 257;
  at_no : l.no < length l.steps.items + 257;
  kept : (at : ℕ) (b : List ℕ) → at < length l.fn.steps.items + 257 → value new at b ≡ value old at b;
  more : length l.fn.steps.items ≤ length l.steps.items;
  fewer : length l.nodes.items ≤ length l.fn.nodes.items;
  left : (t : Tree) (front : List Node) → l.fn.nodes.items ≡ front ++ flat t →
      (u : Tree) × (l.nodes.items ≡ front ++ flat u) × (tests u + length l.steps.items ≡ tests t + length l.fn.steps.items)
      × ((b : List ℕ) → cond (truth u b) (value new l.yes b) (value new l.no b) ≡ cond (truth t b) (value old l.fn.yes b) (value old l.fn.no b));
}

abbrev pub decreases-parts : goal.decreases-parts
decreases-parts l = length l.nodes.items
