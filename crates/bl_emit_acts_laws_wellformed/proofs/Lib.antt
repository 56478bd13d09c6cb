pub mod OnFormed
pub mod OnSpelled
