pub mod Faces
pub mod Judged
pub mod Told
pub mod Turns
pub mod inner
