-- What the proofs of the functions cite, and the laws for callers.

-- the laws
pub mod LineLaws
pub mod Spellings
pub mod Starts
pub mod RingLaws
-- how they are shown
pub mod Lists
pub mod Apart
pub mod NextByte
pub mod Digits
pub mod NumberText
pub mod FieldText
pub mod LineText
pub mod Local
pub mod Begun
-- what the code's steps say
pub mod Lengths
pub mod Widths
pub mod Writing
pub mod Going
pub mod WritingLine
pub mod ReadingLine
pub mod Tests
pub mod Stored
pub mod Pieces
