pub mod Back
pub mod Digits
pub mod Exact
pub mod Layout
pub mod Nearest
pub mod RatioRounding
pub mod Styles
