-- Numbers and what is said are inverse to each other.
pub mod Inverses
-- Which refusal the calls give, and that each takes back what the other gave.
pub mod Theorems
-- Outcomes and calls that are computed.
pub mod Examples
