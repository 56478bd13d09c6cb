pub mod SlotLayout
pub mod Numbered
pub mod Registers
pub mod Transitions
