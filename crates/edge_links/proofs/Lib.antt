mod AddedPlaces
mod OwnedCounts
mod Cuts
pub mod EdgeCounts
mod Forgotten
mod OneMorePlace
mod RingJoins
mod RingLeaves
mod FreePlaces
mod ColumnChanges
mod ErrorExits
mod FirstEdges
pub mod Membership
mod Moves
mod OwnerChanges
mod ListPuts
mod PlacePaths
mod Unsettle
mod Users
mod WaitingPlaces
mod BackwardWalks
mod WeightedSums
mod SlotWrites
mod LinkedNameEdges
mod NameEdgeAdditions
pub mod NameEdgeCuts
mod NameNodes
mod NodeHalves
