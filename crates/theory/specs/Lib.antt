-- What is promised rests on these: the definitions of the documents. The contracts cite Derive and Run, which are computed; Chaining, Stable
-- and the theorems of proofs/ say what they mean.
pub mod Rule
pub mod Chaining
pub mod Lists
pub mod Walk
pub mod Derive
pub mod Run
pub mod Stable
pub mod Keeping
pub mod Repeats
pub mod Layers
pub mod Better
pub mod Examples
-- What only code and proofs use.
pub mod Check
pub mod Search
pub mod Guesses
pub mod Conditions
pub mod Places
