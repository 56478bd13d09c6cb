pub mod Acts
pub mod Arguments
pub mod Frames
pub mod Encodes
pub mod Laws
pub mod Simulation
pub mod inner
