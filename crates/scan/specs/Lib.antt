pub mod block
pub mod line
pub mod kind
