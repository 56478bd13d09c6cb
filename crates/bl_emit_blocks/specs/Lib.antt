pub mod Laws
pub mod Merging
pub mod Numbered
pub mod Pairs
pub mod Views
