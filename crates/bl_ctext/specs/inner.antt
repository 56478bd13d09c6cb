pub mod Cut
pub mod Depths
pub mod Fits
pub mod Prefixes
