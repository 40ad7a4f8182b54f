pub mod Inputs
pub mod Printed
