pub mod Matrices
pub mod MatrixCalls
