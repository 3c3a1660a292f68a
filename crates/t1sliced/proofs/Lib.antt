pub mod Bitwise
mod Powers
mod Words
mod Slides
mod Changed
mod Summed
mod Frames
mod Agree
