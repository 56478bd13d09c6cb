pub mod Checked
pub mod Maps
