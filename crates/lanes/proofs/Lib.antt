pub mod FactsHeld
pub mod LaneMarked
pub mod LanePatterns
pub mod LanesFit
pub mod WordsJoined
pub mod WordsMet
pub mod WordsPut
