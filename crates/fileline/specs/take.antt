pub mod Any
