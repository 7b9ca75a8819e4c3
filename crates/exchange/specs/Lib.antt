pub mod Order
pub mod Table
