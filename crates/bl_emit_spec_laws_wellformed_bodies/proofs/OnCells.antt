pub mod Callees
pub mod Held
pub mod Locals
pub mod Running
pub mod Whole
