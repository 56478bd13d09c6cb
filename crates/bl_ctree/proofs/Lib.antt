mod Bools
pub mod Elements
mod Forgetting
pub mod ItemLemmas
pub mod Leaving
pub mod Listing
mod Ordering
pub mod Proper
mod Settling
pub mod Stepping
pub mod WakeLemmas
