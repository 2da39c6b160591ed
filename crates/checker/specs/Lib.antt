pub mod Check
pub mod Says
pub mod Printed
pub mod Cases
pub mod Laws
