pub mod Simulation
pub mod Compiled
pub mod Establishes
pub mod Leaves
