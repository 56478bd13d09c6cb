pub mod Jobs
pub mod Usage
pub mod inner
