pub mod Arguments
pub mod Evaluated
mod Expressions
pub mod Hiding
pub mod Homes
mod Names
pub mod NumberedNames
mod Numbers
mod Operators
pub mod Parts
pub mod Places
mod Shown
mod Steps
mod Whole
pub mod Forks
pub mod Writes
pub mod Written
pub mod Cells
pub mod Statements
pub mod Zeros
pub mod Values
pub mod Acts
mod Aliases
pub mod Calls
mod Outlets
pub mod Outputs
mod WholeActs
pub mod Frames
pub mod Begun
pub mod Passing
