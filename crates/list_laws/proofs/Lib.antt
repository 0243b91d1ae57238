pub mod WasLaws
pub mod ClashLaws
pub mod Acceptance
pub mod OrderLaws
