pub mod Buffer
pub mod Places
