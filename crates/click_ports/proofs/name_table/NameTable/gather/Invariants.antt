use Rattle.std.proofs.Common.{◌≡◌, All, length, map, take}
use Rattle.click_ports.specs.Net.{names_of}
use Rattle.click_ports.specs.kept.NameTables.{name_within, IsWithin}
use Rattle.click_ports.proofs.name_table.NameTable.gather.Given as goal

abbrev pub invariant-loop-element : goal.invariant-loop-element
invariant-loop-element l = record {
  names : map (name_within l.bytes.items) l.places.items ≡ names_of (take l.element-index l.elements);
  within : All (IsWithin (length l.bytes.items)) l.places.items;
}
