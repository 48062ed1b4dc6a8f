pub mod RunFromC
