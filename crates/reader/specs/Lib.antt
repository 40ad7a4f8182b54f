pub mod Reader
pub mod RoundTrips
