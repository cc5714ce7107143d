pub mod Requests
pub mod Table
pub mod Model
pub mod Library
pub mod Demands
pub mod Examples
pub mod NameExamples
pub mod SecondExamples
