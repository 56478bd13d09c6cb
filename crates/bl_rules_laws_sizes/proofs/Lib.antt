mod NamedParts
pub mod Naming
mod Narrow
mod Small
mod Spelled
mod Typing
