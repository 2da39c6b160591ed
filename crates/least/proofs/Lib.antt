pub mod Seeking
pub mod Goes
