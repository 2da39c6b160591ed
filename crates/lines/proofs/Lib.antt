-- What the lines of a text are, which number each has, and which byte goes with one that is due; what other crates and the functions cite.

pub mod LinesAre
pub mod LinesOf
pub mod LineNumbers
pub mod DueBytes
pub mod LineSteps
