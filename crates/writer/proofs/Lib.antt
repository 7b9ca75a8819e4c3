pub mod PartTexts
pub mod RankLaws
pub mod RunLaws
pub mod Walking
pub mod LineLaws
