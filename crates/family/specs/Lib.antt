pub mod Size
pub mod Sizes
