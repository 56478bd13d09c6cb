pub mod OnCells
pub mod OnFiles
pub mod OnFormed
pub mod OnNumbered
pub mod OnSpelled
