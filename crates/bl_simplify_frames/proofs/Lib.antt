pub mod OnBodies
pub mod OnDecided
pub mod OnEnds
pub mod OnKept
pub mod OnLists
pub mod OnPlaces
