-- From the steps to a whole run: the list of visits (`ScannedVisits`) and the words of answers (`Stated`). proofs/Runs has the tree and the listed answers.
pub mod Stated
pub mod ScannedVisits
