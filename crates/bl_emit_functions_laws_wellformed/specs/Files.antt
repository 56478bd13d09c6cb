pub mod Laws
pub mod List
