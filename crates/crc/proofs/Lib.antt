pub mod Xor
pub mod Laws
pub mod Division
pub mod StripedLaws
pub mod Digits
pub mod Order
pub mod ShareLaws
pub mod WordLaws
pub mod FoldLaws
mod TableLaws
