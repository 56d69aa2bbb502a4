pub mod MappedElements
pub mod LiteralsCounted
pub mod LiteralsBelow
pub mod AskersCounted
pub mod RulesIndexed
