pub mod Entering
pub mod Remembering
