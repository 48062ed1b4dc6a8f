pub mod Ranking
