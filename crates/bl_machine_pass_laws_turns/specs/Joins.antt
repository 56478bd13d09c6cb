pub mod Laws
pub mod Stems
