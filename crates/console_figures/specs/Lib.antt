pub mod Asked
pub mod Letters
pub mod Numbers
