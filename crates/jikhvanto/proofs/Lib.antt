pub mod Laws
pub mod T1Laws
pub mod StreamLaws
pub mod StreamBack
pub mod RunLaws
pub mod StreamRuns
pub mod Maps
pub mod Places
