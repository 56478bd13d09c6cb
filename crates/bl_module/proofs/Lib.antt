pub mod FaceLemmas
pub mod Keeping
pub mod Layers
pub mod MapLemmas
