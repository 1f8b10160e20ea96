-- Lists and tables that the code fills: parts of lists (`ListParts`), rows (`TableRows`), and what is
-- stored of statements (`StatementTables`).
pub mod ListParts
pub mod StatementTables
pub mod TableRows
