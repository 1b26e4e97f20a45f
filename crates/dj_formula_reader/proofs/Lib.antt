pub mod Frames
pub mod Complete
pub mod Sound
pub mod Moves
pub mod Reading
pub mod OneFormula
pub mod Finishing
