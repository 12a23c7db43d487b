pub mod Columns
pub mod Definitions
pub mod Delivery
pub mod Edits
pub mod Numbers
pub mod Options
pub mod Tables
