pub mod OnFormed
pub mod OnNames
