pub mod Bytes
pub mod Pasted
pub mod Helpers
