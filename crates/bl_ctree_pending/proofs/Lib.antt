pub mod SurfaceLemmas
pub mod WriteLemmas
