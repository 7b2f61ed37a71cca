pub mod Induction
pub mod Folds
pub mod Bounds
pub mod NormalForms
pub mod Results
pub mod Firsts
pub mod Equations
mod Sameness
pub mod SameForms
pub mod SameIs
pub mod Sets
pub mod Sat
pub mod Closure
pub mod Joined
pub mod JoinedForms
mod Rows
