pub mod OnCells
