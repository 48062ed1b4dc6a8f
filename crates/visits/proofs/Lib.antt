pub mod OpenedChild
