mod CheckBlocks
mod Examples
mod Findings
mod QueriesAfter
mod FaultSteps
mod Places
mod PrefixAnswers
mod KeyFaults
mod Questions
mod ItemReports
mod ChainTurns
mod UnitRows
pub mod ValuedUnits
