pub mod Replies
pub mod Working
