pub mod Layout
pub mod Planes
pub mod Lists
pub mod Places
