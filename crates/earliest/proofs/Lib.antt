pub mod RootFound
pub mod FactsListed
