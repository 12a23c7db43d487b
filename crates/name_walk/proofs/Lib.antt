mod Chains
mod ClearedFaults
pub mod ClosedPaths
mod UnknownNames
mod Distinct
mod Faults
mod Going
mod StableFindings
mod Links
pub mod Lists
pub mod Marks
pub mod Members
mod Moves
mod PathFaultRecords
mod WalkOrder
mod QueryPasses
mod PathFaults
mod PendingFault
mod RingPass
mod Rings
pub mod DoneNames
mod SearchMarks
mod SearchMoves
mod SearchPasses
mod SearchInvariant
mod Trails
mod Weights
