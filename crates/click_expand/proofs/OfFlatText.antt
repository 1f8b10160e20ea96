-- The text of a flat form reads back as that flat form (`ReadBackLaw`). Its names are words
-- (`NameWords`, `ClassWords`, `WellFormedTokens`, `WellFormedFlat`), and its lines are statements
-- (`TextPieces`, `TextTokens`, `Lines`). These make one scope with the same flat form (`LineScope`,
-- `LineSoundness`, `TextItems`, `LineFlatForm`).
pub mod ClassWords
pub mod LineFlatForm
pub mod LineScope
pub mod LineSoundness
pub mod Lines
pub mod NameWords
pub mod ReadBackLaw
pub mod TextItems
pub mod TextPieces
pub mod TextTokens
pub mod WellFormedFlat
pub mod WellFormedTokens
