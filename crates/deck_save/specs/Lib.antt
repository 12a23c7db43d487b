pub mod Examples
pub mod Laws
pub mod LineTexts
pub mod SavedText
pub mod SavedLines
