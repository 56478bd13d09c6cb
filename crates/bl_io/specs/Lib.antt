pub mod Count
pub mod Held
pub mod Left
pub mod Memory
pub mod Plan
pub mod Store
