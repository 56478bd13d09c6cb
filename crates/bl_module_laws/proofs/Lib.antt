mod Borders
mod Constants
mod Entries
mod Globals
mod Good
mod Lists
mod Nesting
mod Next
mod Parts
mod Passing
pub mod Read
mod Steps
mod Together
mod Turns
mod Units
mod Whole
mod WholeFiles
