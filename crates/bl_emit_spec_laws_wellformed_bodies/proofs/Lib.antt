pub mod OnBodies
pub mod OnCells
pub mod OnLists
pub mod OnSigned
pub mod OnStructs
