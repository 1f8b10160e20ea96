use Rattle.std.proofs.Common.{◌≡◌, List, length, take}
use Rattle.click_scopes.specs.Elements.{Placed}
use Rattle.click_scopes.specs.kept.Tables.{elements_of}
use Rattle.click_scopes.specs.kept.ConnectionEnds.{names_among, scope_elements_in, placed_elements, AreNamesKnown, AreEndsKept}
use Rattle.click_scopes.proofs.written_connections.ends_at.Given as goal

abbrev pub invariant-loop-place : goal.invariant-loop-place
invariant-loop-place l = record {
  count : length l.ends.items ≡ l.place;
  known : (ps : List Placed) → AreNamesKnown l.config.text l.in_body l.declared.names l.declared.firsts.items l.numbers ps → placed_elements ps ≡ elements_of l.written →
      AreEndsKept (scope_elements_in l.config.text l.in_body ps) l.config (names_among l.config.text l.in_body ps) 0 l.ends.items (take l.place ps);
}
