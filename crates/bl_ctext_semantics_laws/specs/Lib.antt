pub mod Fitting
pub mod Layout
pub mod Reaching
pub mod Flat
pub mod Laws
