-- What is promised.
pub mod Questions
pub mod Accept
pub mod RuleLength
-- What only code and proofs use.
pub mod Begins
pub mod Asked
pub mod Accepted
pub mod Scanned
pub mod BodyScanned
pub mod Scanning
