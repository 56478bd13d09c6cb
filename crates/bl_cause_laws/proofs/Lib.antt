pub mod Elements
pub mod Placing
pub mod Ranking
