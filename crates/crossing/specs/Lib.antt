pub mod Pair
pub mod FindPair
pub mod AllCross
pub mod Crossing
pub mod Laws
