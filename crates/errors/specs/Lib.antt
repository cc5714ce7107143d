pub mod Errors
pub mod Answer
