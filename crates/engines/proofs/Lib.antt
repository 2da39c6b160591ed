pub mod LinkByLink
pub mod Lowered
pub mod TightCuts
pub mod Engines
pub mod LoweredLoads
pub mod CasesHold
