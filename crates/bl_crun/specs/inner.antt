pub mod CallsDone
pub mod Ticked
