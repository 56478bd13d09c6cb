pub mod Fronts
pub mod Judged
