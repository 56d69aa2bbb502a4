pub mod MaskedBlocks
pub mod PassedOver
