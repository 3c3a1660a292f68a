pub mod Sliced
