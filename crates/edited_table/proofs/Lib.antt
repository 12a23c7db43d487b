mod AllRecords
pub mod AsBox
mod EditOutcomes
mod Replied
