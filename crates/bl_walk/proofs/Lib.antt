pub mod Picking
pub mod Ticking
pub mod Walking
