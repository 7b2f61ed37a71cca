pub mod Forms
pub mod LineForms
pub mod Derivations
pub mod Certificates
pub mod Printed
pub mod Laws
pub mod Steps
