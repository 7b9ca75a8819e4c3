pub mod Joins
pub mod Places
pub mod FieldLaws
pub mod Upto
pub mod PartLaws
pub mod SitesLaws
pub mod BracketLaws
pub mod LineLaws
