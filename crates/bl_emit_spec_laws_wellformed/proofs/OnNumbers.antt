pub mod Firsts
pub mod Injective
pub mod Marks
pub mod Whole
