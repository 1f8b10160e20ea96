-- The instances of scopes: the walk that makes them (`LexicalParents`, `InstanceParts`, `Frames`,
-- `WalkEntry`, `WalkExit`, `WalkSteps`). Also the elements of a scope (`DistinctElements`), the
-- sizes of scopes (`ScopeSizes`), and the flat names of elements (`OutwardNames`).
pub mod DistinctElements
pub mod Frames
pub mod LexicalParents
pub mod InstanceParts
pub mod OutwardNames
pub mod ScopeSizes
pub mod WalkEntry
pub mod WalkExit
pub mod WalkSteps
