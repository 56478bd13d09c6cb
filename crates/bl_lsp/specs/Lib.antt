pub mod Deeds
pub mod Documents
pub mod Framing
pub mod Kinds
pub mod Replies
pub mod Written
