pub mod Begin
pub mod Looser
