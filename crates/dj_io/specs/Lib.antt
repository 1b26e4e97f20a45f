pub mod Count
pub mod Contents
pub mod FailingFiles
pub mod BoundedOutput
pub mod FailingOutput
