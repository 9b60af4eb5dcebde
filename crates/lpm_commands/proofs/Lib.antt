pub mod FilledTable
pub mod RuleOrder
pub mod Groups
pub mod UpdateResults
pub mod Texts
pub mod CoverSearch
