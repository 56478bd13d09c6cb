pub mod Known
pub mod Members
pub mod Named
pub mod Needed
pub mod Once
