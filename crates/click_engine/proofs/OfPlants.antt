-- Lemmas about plants.
--
-- They are about the first plant of a net (`FirstPlant`), its elements (`PlantElements`,
-- `BlankElement`), the connections of their ports (`ConnectionTable`, `ConnectedPorts`), the tasks
-- (`TaskPlaces`), and taking over (`ElementTakeOver`).
pub mod BlankElement
pub mod ConnectedPorts
pub mod ConnectionTable
pub mod ElementTakeOver
pub mod FirstPlant
pub mod LastElement
pub mod PlantElements
pub mod TaskPlaces
