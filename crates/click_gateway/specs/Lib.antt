pub mod Addresses
pub mod Arp
pub mod Datagrams
pub mod Icmp
pub mod Mirrors
pub mod Udp
