pub mod Bodies
pub mod Cells
pub mod Lists
pub mod Signed
pub mod Structs
