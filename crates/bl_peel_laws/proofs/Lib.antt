mod Aliases
mod Conflicts
mod Deciding
mod Declaring
pub mod Effects
mod Failures
mod Inheriting
pub mod Lists
mod Loops
mod Origins
mod Owners
