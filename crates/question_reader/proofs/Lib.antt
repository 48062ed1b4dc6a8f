pub mod EquationSides
