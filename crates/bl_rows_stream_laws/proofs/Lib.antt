pub mod Counting
pub mod Silences
