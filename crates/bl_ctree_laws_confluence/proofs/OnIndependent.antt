pub mod Accepted
pub mod Homes
pub mod Inside
pub mod Sides
pub mod Sparing
