pub mod Told
pub mod ToldWork
