pub mod Functions
pub mod Reads
pub mod Statements
pub mod Trees
pub mod inner
