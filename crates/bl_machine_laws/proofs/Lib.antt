pub mod OnNumbers
pub mod OnPasses
pub mod OnRests
pub mod OnTraces
pub mod OnWaiting
