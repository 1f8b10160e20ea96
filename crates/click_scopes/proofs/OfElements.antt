-- The elements of a scope: those of its statements (`StatementElements`, `WrittenElements`), and
-- their names (`DeclaredNames`). Also the names and configuration strings of the stored elements
-- (`ElementTables`), and the bodies that they mean (`ElementBodies`).
pub mod DeclaredNames
pub mod ElementBodies
pub mod ElementTables
pub mod StatementElements
pub mod WrittenElements
