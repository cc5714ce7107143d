pub mod SumLaws
pub mod ChecksumLaws
pub mod ValidityLaws
pub mod RuleLaws
pub mod SameLaws
pub mod NewLaws
