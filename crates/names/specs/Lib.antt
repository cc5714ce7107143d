pub mod Name
pub mod Rules
pub mod Helpers
