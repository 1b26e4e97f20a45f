pub mod Texts
pub mod OneText
pub mod RuleLines
pub mod Choosing
