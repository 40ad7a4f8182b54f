pub mod Layouts
pub mod Planes
pub mod Places
