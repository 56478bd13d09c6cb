pub mod Again
pub mod Bodies
pub mod Courses
pub mod Flags
pub mod Itself
pub mod Memories
pub mod NoPrev
pub mod Whole
