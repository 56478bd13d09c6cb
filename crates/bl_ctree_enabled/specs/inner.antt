pub mod Asked
pub mod Tables
