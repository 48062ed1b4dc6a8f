-- From the steps to a whole run: the tree (`TreeAnswers`) and the listed answers (`Listed`).
pub mod Listed
pub mod TreeAnswers
