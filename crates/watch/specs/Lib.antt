pub mod Calls
pub mod Changes
pub mod Costs
pub mod Edits
pub mod Examples
pub mod WatchViews
