pub mod Found
pub mod Laid
pub mod Sorted
