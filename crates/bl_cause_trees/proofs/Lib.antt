pub mod Deciding
pub mod Judged
pub mod KeptUnits
pub mod Peeled
pub mod Results
