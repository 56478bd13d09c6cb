pub mod OnBounded
pub mod OnProgress
pub mod OnReady
pub mod OnTraces
