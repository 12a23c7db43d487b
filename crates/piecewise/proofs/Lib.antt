pub mod FirstSegments
pub mod Neighbours
