pub mod EditLaws
pub mod LookupLaws
pub mod LeavesLaws
pub mod FoundLaws
pub mod CallLaws
pub mod KeptLaws
pub mod CallPlaces
