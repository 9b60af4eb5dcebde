pub mod Deep
pub mod View
pub mod Changes
pub mod RuleMap
pub mod Longest
