pub mod TermWalk
