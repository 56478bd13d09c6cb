pub mod Last
pub mod Border
pub mod Bytes
pub mod Together
