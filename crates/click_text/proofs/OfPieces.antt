-- The pieces of a text: how one begins (`FirstBytes`) and ends (`StringEnds`, `WordForms`), and
-- which one is the longest (`LongestPiece`). Each text has exactly one list of them
-- (`PieceExistence`, `OnePieceList`).
pub mod FirstBytes
pub mod LongestPiece
pub mod OnePieceList
pub mod PieceExistence
pub mod StringEnds
pub mod WordForms
