-- What the laws say of a flat form: its names, its order and its ends (`OwnElements`), and without
-- compounds also its elements and connections (`OwnElements`, `WrittenConnections`).
pub mod OwnElements
pub mod WrittenConnections
