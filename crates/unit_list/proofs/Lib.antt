pub mod SignedCounts
pub mod PlainCounts
pub mod UnitSteps
pub mod Unique
pub mod Values
