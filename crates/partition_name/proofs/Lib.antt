pub mod SameLaws
pub mod MatchLaws
pub mod LoopLaws
