pub mod Lines
pub mod LineEnds
pub mod Laws
pub mod DueBytes
pub mod OnLine
