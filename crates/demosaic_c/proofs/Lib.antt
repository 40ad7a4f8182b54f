pub mod Cuts
pub mod Returns
pub mod Wide
