pub mod Within
pub mod Laws
pub mod BareWithin
pub mod KeptWithin
pub mod Judged
pub mod Inside
pub mod Outside
pub mod Accepted
