pub mod Spines
pub mod Spots
pub mod Wakings
pub mod Writers
