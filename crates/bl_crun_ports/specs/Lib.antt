pub mod Layout
pub mod Ports
pub mod inner
