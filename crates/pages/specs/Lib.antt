pub mod Types
pub mod Cuts
pub mod CutLaws
pub mod Pages
