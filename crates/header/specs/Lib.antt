pub mod Checksum
pub mod Header
pub mod Rules
