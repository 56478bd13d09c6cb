pub mod OnCosts
pub mod OnCounters
pub mod OnFiles
pub mod OnFunctions
