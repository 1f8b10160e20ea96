-- Lemmas about names of elements and devices: which comes first (`FirstNames`, `FirstDevices`), and
-- the first eight names, which are compared one after another (`NearNames`).
pub mod FirstDevices
pub mod FirstNames
pub mod NearNames
