pub mod Least
pub mod Rule
pub mod Trying
