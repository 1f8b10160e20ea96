-- Tables of routes: their rows (`RouteTables`, `TableRows`, `PrefixLengths`), in the order of their
-- prefix lengths (`EntryOrder`), and the route of an address (`LongestRoute`, `OneRoute`). The ranges
-- of addresses that have the same entry (`RowChanges`, `RouteRanges`).
pub mod EntryOrder
pub mod LongestRoute
pub mod OneRoute
pub mod PrefixLengths
pub mod RouteRanges
pub mod RouteTables
pub mod RowChanges
pub mod TableRows
