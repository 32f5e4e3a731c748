-- The proofs of the demands, in the order in which to read them. What all of it comes to is `FromText`: demand 3 as one theorem, from a
-- text to the calls that are linked; and `TextIn`: demand 2 from a text on, and demand 3 with it.
pub mod OnTokens
pub mod Room
pub mod CallsOnTokens
pub mod Demand3
pub mod Determined
pub mod Consequences
pub mod LentCalls
pub mod CallSums
pub mod TextIn
pub mod FromText
