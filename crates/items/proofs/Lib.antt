pub mod RefusalNumbers
pub mod FirstNo
pub mod Bodies
pub mod LengthTable
pub mod ItemSays
pub mod ItemBytes
pub mod PlacedBytes
pub mod Passed
