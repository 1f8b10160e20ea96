-- A book as lines.
use Rattle.std.specs.Prelude.{ℕ, List, [], ◌∷◌, ◌++◌}
use Rattle.std.specs.List.{flat_map}
use Rattle.click_desk.specs.declared.entry.Entry.{Entry}
use Rattle.click_lines.specs.Lines.{entry_line}

-- the line of an entry
abbrev pub written : Entry → List ℕ
written e = entry_line e.seat e.call e.reply

-- the lines of entries, in order, each with its end
abbrev pub book_text : List Entry → List ℕ
book_text entries = flat_map (λ (e : Entry). written e ++ 10 ∷ []) entries
