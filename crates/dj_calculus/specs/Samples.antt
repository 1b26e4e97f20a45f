-- Samples: product lines and Java classes as plain trees, with the byte offsets of their texts.
pub mod Builders
pub mod S6
pub mod S7
pub mod S8
pub mod S12
pub mod S13
pub mod NullMember
pub mod Rules
pub mod NullCast
