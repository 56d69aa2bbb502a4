pub mod EachKind
pub mod CursorWays
pub mod OneRow
pub mod Items
pub mod ReadBack
pub mod ReadNumbers
pub mod NoItemRead
