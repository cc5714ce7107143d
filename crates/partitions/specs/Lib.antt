pub mod Walk
pub mod Find
pub mod Views
pub mod Cover
pub mod Examples
