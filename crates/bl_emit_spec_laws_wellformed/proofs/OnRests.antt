pub mod Numbers
pub mod Rules
pub mod Spots
pub mod Whole
