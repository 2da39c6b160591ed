-- What the proofs of the functions cite, and the laws for callers.

-- the laws
pub mod MatrixText
pub mod ReasonsGiven
pub mod RoundTrip
pub mod SumsGiven
pub mod Rooms
pub mod OneEach
-- how they are shown
pub mod LinesText
pub mod AnyFields
pub mod BytesGiven
pub mod Entries
pub mod SumLaws
pub mod RowLaws
pub mod FewRows
-- what the code's steps say
pub mod NumbersSteps
pub mod LineSteps
pub mod ReadSteps
pub mod JudgeSteps
pub mod FillSteps
pub mod SumSteps
pub mod WriteSteps
