pub mod Apart
pub mod Deeds
pub mod Independent
pub mod Stores
