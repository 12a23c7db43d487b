pub mod FirstLine
pub mod ContinuedLines
pub mod WordLists
pub mod ByteSearch
pub mod EmptyLines
pub mod TrimmedTexts
