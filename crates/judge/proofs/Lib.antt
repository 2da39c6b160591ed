pub mod Across
pub mod Rows
pub mod Links
pub mod Judging
pub mod Accepted
pub mod Tests
pub mod Places
pub mod LowerJudged
