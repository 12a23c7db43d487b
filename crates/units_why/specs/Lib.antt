pub mod Statuses
pub mod Version
