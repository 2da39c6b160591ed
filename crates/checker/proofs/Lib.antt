pub mod Found
pub mod Reasons
pub mod CheckSteps
pub mod LowerChecks
pub mod Promised
pub mod CasesHold
