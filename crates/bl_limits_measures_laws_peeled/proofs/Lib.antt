pub mod Greatest
pub mod Numbers
