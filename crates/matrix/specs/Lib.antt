-- What a matrix is, what it says of a table's rows, what each reason says of its text, and how much room suffices.
pub mod Matrix
pub mod Demands
pub mod Range
pub mod Laws
pub mod Read
pub mod Judged
pub mod Square
pub mod Room
pub mod Says
pub mod ReadInto
