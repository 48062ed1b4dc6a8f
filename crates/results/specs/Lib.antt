pub mod Loans
pub mod Result
