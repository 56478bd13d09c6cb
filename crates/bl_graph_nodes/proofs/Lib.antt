pub mod Equations
pub mod Instants
pub mod Labels
pub mod Differing
