pub mod Branching
pub mod Finding
pub mod Laying
pub mod Numbering
