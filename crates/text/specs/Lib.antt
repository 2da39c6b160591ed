-- What a line of a table or a sheet is, as text and as values. `proofs/LineLaws.antt` fixes the reader by `WriteLine` and `FirstFault`.
pub mod Bytes
pub mod Number
pub mod Field
pub mod WriteLine
pub mod FirstFault
pub mod Shapes
pub mod FieldByte
pub mod Pass
pub mod PassesLawful
pub mod Written
pub mod ReadNumber
pub mod ReadMark
pub mod ReadLine
pub mod RingLine
pub mod ReadRing
