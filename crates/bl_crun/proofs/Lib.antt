pub mod Cells
pub mod Rows
pub mod Ticks
pub mod Calls
pub mod Loops
pub mod Keeping
pub mod Puts
