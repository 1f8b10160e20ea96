-- A configuration has only one flat form or one fault (`OneFlatForm`, `OneFault`). It has only one
-- list of elements (`OneElementList`) and of connections (`OneOrder`), and its misuses are at
-- tokens (`TokenPlaces`).
pub mod OneElementList
pub mod OneFault
pub mod OneFlatForm
pub mod OneOrder
pub mod TokenPlaces
