pub mod RetiredGroups
