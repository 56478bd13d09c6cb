pub mod Vm
pub mod Code
pub mod Laws
