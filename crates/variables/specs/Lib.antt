pub mod Edits
pub mod Calls
pub mod Rules
pub mod Views
pub mod Helpers
