pub mod FilledGaps
pub mod GapSearch
pub mod LayerMerges
pub mod Layers
pub mod SlotItems
pub mod Truncations
