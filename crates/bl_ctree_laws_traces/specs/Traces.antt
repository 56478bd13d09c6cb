pub mod Maximal
pub mod OneTrace
