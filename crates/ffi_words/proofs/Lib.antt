pub mod RoundTrip
pub mod Laws
pub mod Parts
pub mod Missing
