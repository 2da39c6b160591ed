pub mod Findings
pub mod Tests
