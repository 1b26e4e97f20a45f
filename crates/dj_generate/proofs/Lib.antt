pub mod FromProducts
