pub mod Changing
pub mod Doing
pub mod NodesFit
pub mod Passing
