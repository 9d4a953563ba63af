pub mod GrammarFar
pub mod GrammarLaws
pub mod GrammarRules
pub mod KindLaws
pub mod Syntax
pub mod SyntaxLaws
pub mod SyntaxRules
pub mod Terminals
