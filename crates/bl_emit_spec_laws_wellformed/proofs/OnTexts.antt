pub mod Files
pub mod Interface
