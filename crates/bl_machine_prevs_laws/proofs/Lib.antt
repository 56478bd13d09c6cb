pub mod OnDeclared
pub mod OnNames
pub mod OnScalar
pub mod OnTypes
