pub mod Chains
pub mod Growing
pub mod Sizes
pub mod Totals
