pub mod Wakings
