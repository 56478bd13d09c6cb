pub mod Calling
pub mod Copied
pub mod Fitting
pub mod Points
pub mod Prevs
pub mod Seen
pub mod Views
