mod Answering
pub mod Blocks
mod Calls
pub mod Heads
mod Lining
mod Moving
pub mod Peeling
mod Places
pub mod Programs
mod Relating
pub mod Running
mod Shapes
pub mod Stepping
mod Stilling
mod Waking
mod Whole
