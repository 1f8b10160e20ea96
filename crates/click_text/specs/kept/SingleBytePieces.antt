-- The pieces of one byte, white space excepted.
use Rattle.std.specs.Prelude.{ℕ, Option, Some, None, eqb, if◌then◌else◌}
use Rattle.click_text.specs.declared.lexer.Piece.{Piece}
use Rattle.click_text.specs.declared.lexer.Piece.TheVariants as piece

abbrev pub mark_of : ℕ → Option Piece
mark_of b =
    if eqb b 59 then Some piece.Semicolon
    else if eqb b 44 then Some piece.Comma
    else if eqb b 91 then Some piece.OpenBracket
    else if eqb b 93 then Some piece.CloseBracket
    else if eqb b 123 then Some piece.Open
    else if eqb b 125 then Some piece.Close
    else if eqb b 124 then Some piece.Bar
    else None
