pub mod Forms
pub mod ExprLoop
pub mod FormulaLoop
pub mod OneByte
