pub mod Behind
pub mod Faces
pub mod Names
pub mod Own
pub mod Parts
pub mod Rules
pub mod inner
