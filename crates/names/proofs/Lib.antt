pub mod Table
pub mod Marks
pub mod NameLaws
pub mod AheadLaws
