pub mod OnBodies
pub mod OnCalls
pub mod OnResults
pub mod OnUnits
