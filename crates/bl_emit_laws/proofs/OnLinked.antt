pub mod Spared
pub mod Units
pub mod Linked
pub mod Coming
pub mod Entered
