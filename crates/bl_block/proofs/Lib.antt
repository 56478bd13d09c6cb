pub mod Beginning
pub mod Grouping
pub mod Merging
pub mod Noting
pub mod Resuming
pub mod Telling
pub mod Tests
pub mod WayLemmas
