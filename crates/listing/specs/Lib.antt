pub mod Words
pub mod Text
pub mod Rules
pub mod Listed
pub mod Examples
pub mod Helpers
