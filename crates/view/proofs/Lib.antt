pub mod RangeItems
pub mod RuleRanges
