pub mod Called
pub mod Known
