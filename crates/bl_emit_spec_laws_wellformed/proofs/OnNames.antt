pub mod Locals
pub mod Names
pub mod Numbers
