pub mod Activities
pub mod Blocks
pub mod Lent
pub mod Names
pub mod Programs
pub mod Words
