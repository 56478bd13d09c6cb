pub mod Diagnostics
pub mod Sentences
