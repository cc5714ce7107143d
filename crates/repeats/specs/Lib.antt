pub mod Pieces
pub mod Examples
pub mod Helpers
