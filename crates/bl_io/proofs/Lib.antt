pub mod Handing
pub mod Held
pub mod Left
pub mod Named
pub mod Planned
