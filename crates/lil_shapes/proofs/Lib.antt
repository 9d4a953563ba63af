pub mod LayLaws
pub mod ShapeLaws
pub mod SignatureLaws
pub mod TargetLaws
