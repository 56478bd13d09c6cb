pub mod Flags
pub mod Keys
pub mod Rooted
pub mod Same
pub mod Slots
pub mod Spots
pub mod Turns
