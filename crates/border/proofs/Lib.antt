pub mod Reflection
