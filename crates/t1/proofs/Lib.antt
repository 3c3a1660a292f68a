pub mod Laws
pub mod Powers
pub mod Slides
pub mod Lacking
mod Checked
mod RawLaws
