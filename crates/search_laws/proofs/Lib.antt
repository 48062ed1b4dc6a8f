pub mod PickedChildren
