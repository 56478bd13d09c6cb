pub mod OnDeclared
pub mod OnTraces
