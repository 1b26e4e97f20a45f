pub mod TableLaws
pub mod FlatLaws
pub mod OrderLaws
pub mod RuleLaws
pub mod OnceLaws
pub mod SameTableLaws
