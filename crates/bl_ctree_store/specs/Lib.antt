pub mod Ageing
pub mod Agree
pub mod Callees
pub mod Deeds
pub mod Glimpse
pub mod Own
pub mod Seen
pub mod inner
