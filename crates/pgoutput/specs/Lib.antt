pub mod Boundary
pub mod BoundaryCases
pub mod BoundaryLayout
pub mod Said
