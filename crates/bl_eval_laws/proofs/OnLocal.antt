pub mod Acting
pub mod Locality
pub mod Puts
