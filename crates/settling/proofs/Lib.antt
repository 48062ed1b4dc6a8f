pub mod SettlingLoop
