pub mod Laws
mod Sets
mod Parts
mod Windows
mod Firsts
