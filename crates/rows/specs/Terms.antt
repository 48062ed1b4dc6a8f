-- Terms in words, as the run walks over them: where a term ends, where its kernel stands, its members' words, whether a word occurs.
pub mod Ended
pub mod Stripped
pub mod HeldWords
pub mod MemberWords
