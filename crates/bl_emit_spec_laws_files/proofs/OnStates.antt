pub mod Declared
pub mod Keeping
pub mod Nested
pub mod Types
