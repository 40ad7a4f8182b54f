pub mod Repeated
pub mod Working
