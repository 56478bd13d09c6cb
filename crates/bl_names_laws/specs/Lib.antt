pub mod Apart
pub mod Bound
pub mod Depths
pub mod Filled
pub mod WellFormed
pub mod Referents
pub mod inner
