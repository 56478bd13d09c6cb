pub mod Checks
pub mod Firsts
pub mod Framed
