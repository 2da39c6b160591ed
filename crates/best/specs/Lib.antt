pub mod Best
pub mod Choices
pub mod Tries
pub mod Sends
