pub mod Packet
pub mod Calls
pub mod RoundTrips
