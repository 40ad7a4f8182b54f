pub mod NestedFloor
