pub mod Entry
pub mod inner
