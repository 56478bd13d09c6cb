pub mod CommandLine
pub mod FirstWords
