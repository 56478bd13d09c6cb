pub mod OnCome
pub mod OnCompiled
pub mod OnGives
pub mod OnLeaves
pub mod OnRuns
