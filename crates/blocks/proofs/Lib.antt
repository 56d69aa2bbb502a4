pub mod RulesPlaced
pub mod LanesFired
pub mod LanesSettled
pub mod LanesRoom
pub mod BlockTried
pub mod BlockGuesses
