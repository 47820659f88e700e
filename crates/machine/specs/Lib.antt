-- The service as a state machine, and demand 3 of every list of its calls.
pub mod Answers
pub mod Rules
pub mod Slots
pub mod Store
pub mod Order
pub mod Calls
pub mod Change
pub mod Commutes
pub mod History
pub mod Demand
pub mod Numbers
pub mod Eleven
pub mod Spots
