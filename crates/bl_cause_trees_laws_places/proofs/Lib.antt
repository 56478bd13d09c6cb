pub mod Failing
pub mod Peeled
pub mod Walks
