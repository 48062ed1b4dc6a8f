-- What follows of searches and runs, on top of specs/Searches: more lent, same list (`Lending`); a loan that is enough (`Completing`); names (`Naming`,
-- `NamesLeft`), the form of answers (`AnswerForms`).
pub mod AnswerForms
pub mod Completing
pub mod Lending
pub mod Naming
pub mod NamesLeft
