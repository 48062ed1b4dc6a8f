pub mod At
pub mod Child
pub mod Keep
