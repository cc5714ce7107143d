pub mod Scan
pub mod Area
pub mod Rules
pub mod Helpers
