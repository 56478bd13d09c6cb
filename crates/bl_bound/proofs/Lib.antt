pub mod CapLemmas
pub mod CostLemmas
pub mod TextLemmas
