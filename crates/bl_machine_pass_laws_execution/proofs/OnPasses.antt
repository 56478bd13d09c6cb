pub mod Beginning
pub mod Executing
pub mod Points
