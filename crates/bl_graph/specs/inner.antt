pub mod Flows
pub mod Found
pub mod Gains
pub mod Instants
pub mod Made
pub mod Needed
pub mod Noted
pub mod Parts
