pub mod Asking
pub mod Blocks
pub mod Passing
pub mod Same
pub mod Standing
pub mod Stepping
pub mod Straight
pub mod Turns
