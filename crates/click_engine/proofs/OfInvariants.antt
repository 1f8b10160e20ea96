-- Lemmas about what packet runs and rounds preserve.
--
-- A relation holds between each element before and after a packet run (`RunRelations`) or a round
-- (`RoundRelations`). From this follow properties of each element (`ElementInvariants`, `PortFit`)
-- and of the whole plant (`FirstOrder`, `PlantOrder`).
pub mod ElementInvariants
pub mod FirstOrder
pub mod PlantOrder
pub mod PortFit
pub mod RoundRelations
pub mod RunRelations
