pub mod Amounts
pub mod Counts
pub mod Splits
