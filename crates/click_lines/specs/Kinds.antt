-- The words that lines of calls begin with.
use Rattle.std.specs.Prelude.{ℕ, List, codes}
use Rattle.click_lines.specs.declared.kind.Kind.{Kind}
use Rattle.click_lines.specs.declared.kind.Kind.TheVariants as kind

abbrev pub kind_word : Kind → List ℕ
kind_word kind.Read = codes "read"
kind_word kind.Write = codes "write"
kind_word kind.CheckRead = codes "checkread"
kind_word kind.CheckWrite = codes "checkwrite"
kind_word kind.Swap = codes "swap"
kind_word kind.Arrive = codes "arrive"
kind_word kind.Poll = codes "poll"
kind_word kind.Round = codes "round"
kind_word kind.Transmit = codes "transmit"
