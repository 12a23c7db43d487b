pub mod Fillings
pub mod GapItems
pub mod Gaps
pub mod Laws
pub mod Searches
