pub mod Blanks
pub mod Examples
pub mod Kinds
pub mod Lines
pub mod Parts
pub mod KindView
pub mod Words
