pub mod Laws
pub mod Equal
pub mod Alike
pub mod Values
pub mod ValuesPut
