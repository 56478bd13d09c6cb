pub mod OnApart
pub mod OnDeeds
pub mod OnIndependent
pub mod OnStores
