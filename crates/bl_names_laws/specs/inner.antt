pub mod Apart
pub mod Depths
pub mod Filled
pub mod Leads
