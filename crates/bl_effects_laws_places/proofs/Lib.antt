pub mod Aliases
pub mod Failing
pub mod Loops
pub mod Parallels
