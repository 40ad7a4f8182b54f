pub mod Numbers
pub mod Lists
