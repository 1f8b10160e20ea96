-- ARPQueriers: the table after a change (`QuerierTables`), the outcome for each packet
-- (`QuerierAccounts`), and the packets for known neighbours (`KnownNeighbours`).
pub mod KnownNeighbours
pub mod QuerierAccounts
pub mod QuerierTables
