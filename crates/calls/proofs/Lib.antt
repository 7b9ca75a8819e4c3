pub mod Laws
pub mod FloatLaws
pub mod RowLaws
pub mod SingleLaws
pub mod WhyLaws
pub mod ReachLaws
pub mod WriteLaws
