pub mod Among
pub mod Counting
mod InTurn
mod Opening
mod Placed
mod Positions
