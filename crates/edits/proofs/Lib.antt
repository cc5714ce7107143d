pub mod PutLaws
pub mod SpliceLaws
pub mod ReplaceLaws
