pub mod QuerySequences
pub mod Costs
pub mod CutQueries
pub mod EditReports
pub mod RenewedFirst
pub mod ReportSteps
pub mod Underway
