pub mod Spelling
pub mod Kinds
pub mod Tokens
pub mod Lexing
pub mod Literal
