pub mod Inside
pub mod Leaving
pub mod Same
