pub mod request
