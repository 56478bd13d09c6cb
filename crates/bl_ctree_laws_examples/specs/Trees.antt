pub mod Calls
pub mod Made
pub mod Reset
pub mod TwoWay
pub mod TwoWayTrees
