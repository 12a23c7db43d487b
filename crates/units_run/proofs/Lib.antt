pub mod BuiltInDeck
pub mod CheckRuns
mod ColumnBlocks
pub mod ColumnRuns
pub mod FileRuns
pub mod GrantedRuns
pub mod WordNeeds
pub mod UnneededFiles
pub mod FirstOutput
pub mod WordPlans
pub mod RunEndings
pub mod ReportBlocks
pub mod PlanRuns
pub mod Statuses
pub mod DeckPlans
pub mod SessionFiles
mod TakenBytes
mod WrittenBytes
