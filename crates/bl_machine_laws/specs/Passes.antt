pub mod Follows
pub mod Low
pub mod Orders
pub mod Pass
pub mod Steady
pub mod Ticks
