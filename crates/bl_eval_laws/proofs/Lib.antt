pub mod OnLocal
