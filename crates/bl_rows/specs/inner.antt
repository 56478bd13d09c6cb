pub mod Found
pub mod Plain
pub mod Steps
