pub mod ErrorLaws
pub mod Passed
pub mod AnswerLaws
