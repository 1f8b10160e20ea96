-- The lines of figures, in Prometheus' text format 0.0.4.
use Rattle.std.specs.Prelude.{ℕ, List, ◌++◌, codes, decimal}
use Rattle.click_page.specs.Lines.{escaped}

-- the lines that begin a metric: its description and its type
abbrev pub family_text : List ℕ → List ℕ → List ℕ → List ℕ
family_text metric help kind =
    codes "# HELP " ++ metric ++ codes " " ++ help ++ codes "\n# TYPE " ++ metric ++ codes " " ++ kind ++ codes "\n"

-- the end of a line: a blank and the value
abbrev pub value_text : ℕ → List ℕ
value_text value = codes " " ++ decimal value ++ codes "\n"

-- the line of a metric without labels
abbrev pub line_text : List ℕ → ℕ → List ℕ
line_text metric value = metric ++ value_text value

-- a metric without labels
abbrev pub metric_text : List ℕ → List ℕ → List ℕ → ℕ → List ℕ
metric_text metric help kind value = family_text metric help kind ++ line_text metric value

-- the line of a metric of a link
abbrev pub link_line_text : List ℕ → List ℕ → ℕ → List ℕ
link_line_text metric device value = metric ++ codes "{device=\"" ++ escaped device ++ codes "\"}" ++ value_text value
