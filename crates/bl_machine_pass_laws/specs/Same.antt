pub mod Laws
pub mod Residual
