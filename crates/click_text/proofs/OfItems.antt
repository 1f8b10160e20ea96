-- The items of a text: which one begins it (`ItemForms`), and that each text has exactly one list
-- of items (`ItemExistence`, `OneItemList`).
pub mod ItemExistence
pub mod ItemForms
pub mod OneItemList
