pub mod Changing
pub mod Items
