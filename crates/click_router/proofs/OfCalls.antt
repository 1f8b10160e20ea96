-- Lemmas about calls.
--
-- Each call has one outcome (`OneOutcome`), which a check foretells (`HandlerChecks`). It leaves
-- the router in order (`RouterOrder`) and changes little else (`UnchangedParts`, `OtherElements`).
-- Other lemmas are about a swap to the same names (`SameNames`), a refused swap (`RefusedSwaps`),
-- polls (`DeviceSources`), and global handlers (`OwnHandlers`, `Listings`).
pub mod DeviceSources
pub mod HandlerChecks
pub mod Listings
pub mod OneOutcome
pub mod OtherElements
pub mod OwnHandlers
pub mod RefusedSwaps
pub mod RouterOrder
pub mod SameNames
pub mod UnchangedParts
