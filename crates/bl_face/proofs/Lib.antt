pub mod Names
pub mod Accepting
pub mod Completing
pub mod Running
pub mod Viable
pub mod Kept
pub mod Reading
