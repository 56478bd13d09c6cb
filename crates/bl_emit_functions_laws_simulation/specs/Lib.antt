pub mod Bodies
pub mod Calls
pub mod Results
pub mod Units
