pub mod Common
pub mod Calls
pub mod Helpers
