pub mod Lines
pub mod Fields
pub mod Reading
pub mod Text
pub mod inner
