pub mod Between
pub mod Alike
