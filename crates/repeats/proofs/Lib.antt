pub mod StartLaws
pub mod NameLaws
pub mod LinkLaws
pub mod TableLaws
pub mod BlockLaws
pub mod FirstLaws
