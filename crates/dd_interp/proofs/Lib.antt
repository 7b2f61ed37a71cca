pub mod Meanings
pub mod Quantifiers
pub mod NormalForms
pub mod Unions
pub mod Results
pub mod Axioms
pub mod Claims
pub mod Leans
pub mod Forced
pub mod OpenModels
pub mod RisingLists
pub mod Symbols
pub mod SeenAt
pub mod Filling
pub mod Charts
mod Rows
