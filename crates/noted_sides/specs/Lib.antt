pub mod NotedSides
