-- What a verdict on a ring and a row means, how findings follow each other, and which reason is the first; what other crates and the functions cite.

pub mod Tested
pub mod Findings
pub mod Judged
pub mod Against
pub mod FineRows
pub mod Faults
pub mod LowerLimits
pub mod ReasonNumbers
pub mod FirstGiven
