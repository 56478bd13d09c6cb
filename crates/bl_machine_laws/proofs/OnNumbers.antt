pub mod Sleeping
pub mod Walking
pub mod Width
