pub mod MatrixSteps
pub mod MatrixCalls
