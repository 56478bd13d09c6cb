pub mod Accepted
pub mod Inside
pub mod Sides
