pub mod Rules
pub mod Name
pub mod Examples
