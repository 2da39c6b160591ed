pub mod Lowering
pub mod Engine
pub mod Minimal
pub mod Cases
pub mod Laws
