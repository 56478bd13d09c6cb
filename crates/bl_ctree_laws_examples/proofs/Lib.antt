pub mod OnTrees
