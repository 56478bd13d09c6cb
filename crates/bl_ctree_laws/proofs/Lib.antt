mod Alike
mod Answering
mod Backward
pub mod Diamond
mod Ending
mod Fitting
mod Forward
pub mod Leaving
mod PlainKinds
pub mod Less
pub mod Running
pub mod Surfaces
pub mod Ticking
pub mod Tests
pub mod Waking
