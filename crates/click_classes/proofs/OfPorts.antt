-- The ports of elements: those that an element names exist (`NamedPorts`), some numbers of ports
-- fit its counts (`PortUses`), and its state fits them after each packet (`PortFit`).
pub mod NamedPorts
pub mod PortFit
pub mod PortUses
