pub mod Whole
pub mod PartLaws
pub mod TallyLaws
pub mod LedgerLaws
