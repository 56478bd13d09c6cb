pub mod Chunks
pub mod Digits
pub mod Pieces
pub mod Printed
