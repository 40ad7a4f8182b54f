pub mod SecondLevel
