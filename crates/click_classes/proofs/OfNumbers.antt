-- Numbers of bytes and addresses: bytes and addresses as numbers (`ByteWords`, `AddressWords`), and
-- the bits of prefixes (`PrefixBits`).
pub mod AddressWords
pub mod ByteWords
pub mod PrefixBits
