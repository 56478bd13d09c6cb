pub mod Blocks
pub mod Counters
pub mod Layout
pub mod Machines
pub mod Slots
pub mod Uses
pub mod inner
