pub mod Instances
pub mod OneTrace
pub mod Peeled
