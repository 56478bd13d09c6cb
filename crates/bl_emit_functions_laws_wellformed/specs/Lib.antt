pub mod Cells
pub mod Files
pub mod Formed
pub mod Numbered
pub mod Spelled
