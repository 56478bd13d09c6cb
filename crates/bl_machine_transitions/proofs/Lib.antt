pub mod Listing
pub mod Loops
pub mod Once
pub mod Ranking
pub mod RunLemmas
pub mod Seen
pub mod Statements
pub mod Whole
