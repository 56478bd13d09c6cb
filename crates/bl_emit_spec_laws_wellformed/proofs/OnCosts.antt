pub mod Costs
pub mod Whole
