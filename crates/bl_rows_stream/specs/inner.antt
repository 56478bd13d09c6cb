pub mod Going
pub mod Reports
pub mod Taking
pub mod Ticks
