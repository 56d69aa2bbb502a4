pub mod TrialMade
pub mod FirstFound
