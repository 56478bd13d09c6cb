pub mod Deeds
pub mod Homes
pub mod Nesting
pub mod Orderly
pub mod Origins
