pub mod Every
pub mod Numbers
pub mod Lines
pub mod PartMasks
pub mod Signs
