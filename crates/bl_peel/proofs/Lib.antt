pub mod Alike
pub mod Counting
pub mod Equations
pub mod FirstTurns
pub mod Keeping
pub mod Making
pub mod Sets
